-- A text in two at the first byte that passes a test.
--
-- `whole`: a text in which no byte passes a test is all before the first such byte, with nothing behind.
-- `split`: a text is split at its first byte that passes a test into what is before and what is after that byte.
use Rattle.std.proofs.Common.{◌≡◌, ℕ, ◌+◌, Bool, true, false, Some, None, List}
use Rattle.std.proofs.Common.{[], ◌∷◌, ◌++◌, length, take, drop, refl, ap, ◌∙◌, arith}
use Rattle.std.specs.List.{list_any, position_or_len, before_first, after_first}
use Rattle.std.proofs.lemmas.List.{take_all, drop_all}
use Rattle.std.proofs.lemmas.List.Folds.{list_any-append}
use Rattle.std.proofs.Math.Seq.{take-append_seam, drop-append-add}
use Rattle.std.proofs.lemmas.Bool.{or_parts}
use Rattle.spec_mps.specs.NumberText.{behind}

-- where no byte passes the test: the text before the first such byte is all, and nothing is behind
pub record IsWhole (test : ℕ → Bool) (text : List ℕ) : Type 0 where
  pub before : before_first test text ≡ text
  pub after : after_first test text ≡ []
  pub behind : behind test text ≡ None

-- at its first byte that passes the test the text splits into `front`, that byte and `back`
pub record IsSplit (test : ℕ → Bool) (text front back : List ℕ) : Type 0 where
  pub before : before_first test text ≡ front
  pub after : after_first test text ≡ back
  pub behind : behind test text ≡ Some back

-- the place of the first that passes is after all that do not
position_past : (test : ℕ → Bool) (front rest : List ℕ) → list_any test front ≡ false →
    position_or_len test (front ++ rest) ≡ length front + position_or_len test rest
position_past test [] rest h = omega arith
position_past test (b ∷ front) rest h =
    let p = or_parts (test b) (list_any test front) h in
    rw (p.0, position_past test front rest p.1) (omega arith)

-- where no byte of a text passes, the first that does is at the length of the text
position_whole : (test : ℕ → Bool) (text : List ℕ) → list_any test text ≡ false →
    position_or_len test text ≡ length text
position_whole test [] h = refl
position_whole test (b ∷ text) h =
    let p = or_parts (test b) (list_any test text) h in
    rw (p.0, position_whole test text p.1) (omega arith)

pub whole : (test : ℕ → Bool) (text : List ℕ) → list_any test text ≡ false → IsWhole test text
whole test text h =
    let e = position_whole test text h in
    record {
      before = take_all (position_or_len test text) text (omega arith);
      after = drop_all (position_or_len test text + 1) text (omega arith);
      behind = rw h refl;
    }

pub split : (test : ℕ → Bool) (front : List ℕ) (b : ℕ) (back : List ℕ) → list_any test front ≡ false → test b ≡ true →
    IsSplit test (front ++ b ∷ back) front back
split test front b back h t =
    let here : position_or_len test (b ∷ back) ≡ 0 = rw t refl in
    let e : position_or_len test (front ++ b ∷ back) ≡ length front =
    position_past test front (b ∷ back) h ∙ omega arith in
    let after : after_first test (front ++ b ∷ back) ≡ back =
    ap (λ n. drop (n + 1) (front ++ b ∷ back)) e ∙ drop-append-add front (b ∷ back) 1 in
    record {
      before = ap (λ n. take n (front ++ b ∷ back)) e ∙ take-append_seam front (b ∷ back);
      after = after;
      behind = rw (list_any-append test front (b ∷ back), h, t) (ap Some after);
    }
