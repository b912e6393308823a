-- Digits that come to more than the last number are no number, whatever follows.
use Rattle.std.proofs.Common.{◌≡◌, ℕ, suc, ◌+◌, ◌-◌, ◌*◌, ◌<◌, List, length, drop, get_or, Some, None}
use Rattle.std.proofs.Common.{Bool, true, false, ◌&&◌, not, cond, nat_le, nat_lt, arith, ap, ◌∙◌, refl}
use Rattle.std.proofs.Math.Seq.{drop-cons}
use Rattle.std.proofs.lemmas.Bool.{lt-leb}
use Rattle.std.specs.List.{list_all}
use Rattle.spec_mps.specs.NumberText.{spelled_from}
use Rattle.spec_mps.proofs.DigitLemmas.{spelled_grows}
use Rattle.spec_server.specs.Command.{is_digit, begins_with_zero, number_to}

-- where the last of five tests fails, what all five guard is none
last_fails : (s t u v w : Bool) (n : ℕ) → w ≡ false → None ≡ cond (s && t && u && v && w) (Some n) None
last_fails s t u v true n e = absurd (let h = e in cc)
last_fails true true true true false n e = refl
last_fails true true true false false n e = refl
last_fails true true false v false n e = refl
last_fails true false u v false n e = refl
last_fails false t u v false n e = refl

-- where the digits up to place `at` come to more than the last number, the whole text is no number up to the last one
pub too_large : (last digits : ℕ) (text : List ℕ) (at number : ℕ) →
    spelled_from 0 text ≡ spelled_from number (drop at text) → at < length text →
    last < number * 10 + (get_or text at 0 - 48) → None ≡ number_to last digits text
too_large last digits text at number spelled h past =
    let more : spelled_from 0 text ≡ spelled_from (number * 10 + (get_or text at 0 - 48)) (drop (suc at) text) = spelled
    ∙ ap (spelled_from number) (drop-cons text at 0 h) in
    last_fails (nat_lt 0 (length text)) (nat_le (length text) digits) (list_all is_digit text)
    (not (begins_with_zero text)) _ (spelled_from 0 text)
    (lt-leb (spelled_from 0 text) last
    (omega (arith, more, spelled_grows (number * 10 + (get_or text at 0 - 48)) (drop (suc at) text))))
