-- Whether a test holds of some item of a list, found item by item.
--
-- `none_more`: where it holds of none of the first i items and not of item i, it holds of none of the first i + 1.
-- `found_at`: where it holds of an item, it holds of some.
-- `none_found`: where it holds of none of the first i items, and there are no more, it holds of none.
use Rattle.std.proofs.Common.{◌≡◌, ℕ, ◌+◌, ◌<◌, ◌≤◌, List, length, get_or, take, Bool, true, false, ◌||◌, sym, ap, ap₂, ◌∙◌}
use Rattle.std.specs.List.{list_any}
use Rattle.std.proofs.lemmas.List.{take_all}
use Rattle.std.proofs.lemmas.List.Folds.{list_any_more, list_any_at}

module _ (test : ℕ → Bool) (items : List ℕ) (i : ℕ) where
  pub none_more : (b : Bool) → i < length items → b ≡ test (get_or items i 0) → b ≡ false →
      list_any test (take i items) ≡ false → list_any test (take (i + 1) items) ≡ false
  none_more b l is e h = list_any_more test items i 0 l ∙ ap₂ (λ a b. a || b) h (sym is ∙ e)

  pub found_at : (b : Bool) (all : List ℕ) → i < length items → b ≡ test (get_or items i 0) → b ≡ true → items ≡ all →
      true ≡ list_any test all
  found_at b all l is e same = sym (list_any_at test items i 0 l (sym is ∙ e)) ∙ ap (list_any test) same

  pub none_found : (all : List ℕ) → length items ≤ i → list_any test (take i items) ≡ false → items ≡ all →
      false ≡ list_any test all
  none_found all l h same = sym (ap (list_any test) (sym (take_all i items l)) ∙ h) ∙ ap (list_any test) same
