-- What a loop over the parts of a line between blanks has seen.
use Rattle.std.proofs.Common.{◌≡◌, List, ℕ, Bool, false, Option, None, Bor, map, ap, ◌∙◌}
use Rattle.std.specs.Fn.{CalledAt}
use Rattle.std.specs.List.{slice_split}
use Rattle.std.specs.Iterator.{Yields}
use Rattle.std.specs.declared.slice.Split.{Split}
use Rattle.std.specs.Slice.Iter.{split_steps, split_rest, split_done, split_callee}
use Rattle.std.proofs.lemmas.Iterator.Splits.{YieldsList-from_slice_split}
use Rattle.std.proofs.lemmas.Iterator.Consumers.{YieldsList-end}
use Rattle.spec_text.specs.Words.{is_blank}

-- a loop over what `split` made of a line by the test for blanks has seen all parts at its end
pub blank_parts_all : {F : Type 0} {g : _} {f : F} {s made : Split ℕ F} (line : List ℕ) → s ≡ made →
    split_rest made ≡ line → split_done made ≡ false → split_callee made ≡ f →
    ((x : ℕ) (b : Bool) (q : F) → CalledAt g f x b q → (q ≡ f) × (b ≡ is_blank x)) →
    (parts : List (Bor (List ℕ))) (t u : Split ℕ F) (r : Option (Bor (List ℕ))) →
    Yields (split_steps g) s parts t → r ≡ None → split_steps g t r u →
    map (λ x. x.now) parts ≡ slice_split is_blank line
blank_parts_all {g = g} line same rest done callee tests parts t u r yielded none last =
    let all = YieldsList-from_slice_split g is_blank line
    (ap split_rest same ∙ rest) (ap split_done same ∙ done) (ap split_callee same ∙ callee) tests in
    (YieldsList-end all parts t yielded r u none last).0
