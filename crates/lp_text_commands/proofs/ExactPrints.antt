-- What is written of an exact solve, cold and from the basis of a file.
--
-- `exact_fits`: the certificate of an exact end fits the model.
-- `exact_leaves`: an exact end leaves a basis of the model's form, where it leaves one.
-- `open_line`: where an exact solve ends open, `OPEN` is all that is written of it.
-- `answer_lines`: the text of an exact answer is the lines of its value, of its origin and of its certificate.
-- `formless_based`: of a model without a form, `basis --wide` writes the lines of the exact solve without a basis file.
use Rattle.std.proofs.Common.{◌≡◌, ℕ, List, [], ◌∷◌, ◌++◌, codes, Option, Some, None, IfSome, Result, Ok, Err, OnOk, refl, ap, sym, ◌∙◌, append-nil, append_assoc}
use Rattle.spec_exact.specs.Fraction.{ℚ}
use Rattle.spec_exact.specs.Narrow.{number_limit}
use Rattle.spec_model.specs.Model.{Model}
use Rattle.spec_pivot.specs.declared.status.Status.{Status}
use Rattle.spec_simplex.specs.declared.ends.FormFault.{FormFault}
use Rattle.spec_simplex.specs.Eliminate.{IsBasisOf}
use Rattle.spec_simplex.specs.Form.{Form, form_of}
use Rattle.spec_solve.specs.declared.exact.ExactEnd.TheVariants.{Answered, Open}
use Rattle.spec_solve.specs.Exact.{RationalEnd, RationalAnswer, IsBasisOfAnswer, IsExactAnswer, IsExactEnd}
use Rattle.spec_server.specs.Output.{ended_lines}
use Rattle.spec_certificate.specs.TextWritten.{wide_certificate_lines}
use Rattle.spec_server.specs.WideLines.{wide_known_text}
use Rattle.spec_commands.specs.BasisWideOut.{origin_text, based_lines}
use Rattle.lp_line.specs.ExactEnds.{HasFit}
use Rattle.lp_text_commands.specs.Ends.{exact_lines, whole_lines, LeavesBased}

-- ---- what such an end leaves

pub exact_fits : (m : Model) (budget : ℕ) (starting : Option (List Status)) (end : RationalEnd) →
    IsExactEnd m budget starting end → HasFit m end
exact_fits m budget starting (Answered a) is = let h : IsExactAnswer m a = is in h.0.0
exact_fits m budget starting Open is = tt

-- the basis that an exact answer leaves, if any, is one of the model's form
leaves : (m : Model) (f : Form) (a : RationalAnswer) (basis : Option (List Status)) →
    form_of (Some number_limit) m ≡ Ok f → IfSome basis (IsBasisOfAnswer m a.certificate) →
    IfSome basis (λ basis. IsBasisOf f basis)
leaves m f a (Some basis) formed at = at.of_form f formed
leaves m f a None formed at = tt

pub exact_leaves : (m : Model) (f : Form) (budget : ℕ) (starting : Option (List Status)) (end : RationalEnd) →
    form_of (Some number_limit) m ≡ Ok f → IsExactEnd m budget starting end → LeavesBased f end
exact_leaves m f budget starting (Answered a) formed is =
    let h : IsExactAnswer m a = is in leaves m f a a.basis formed h.1
exact_leaves m f budget starting Open formed is = tt

-- ---- its lines

pub open_line : {T E : Type 0} (m : Model) (end : RationalEnd) (before after : List ℕ) (result : Result T E) →
    end ≡ Open → OnOk result (after ≡ before ++ codes "OPEN\n") → OnOk result (after ≡ before ++ exact_lines m end)
unfolding ended_lines
open_line m end before after (Ok u) e h = h ∙ ap (λ end. before ++ exact_lines m end) (sym e)
open_line m end before after (Err why) e h = tt

-- a known answer's line, its origin's line and the certificate's lines, joined one way, are joined the other
joined : (before k o rest : List ℕ) → ((((before ++ k) ++ 10 ∷ []) ++ o) ++ 10 ∷ []) ++ rest
    ≡ before ++ ((k ++ 10 ∷ []) ++ ((o ++ 10 ∷ []) ++ rest))
joined before k o rest =
    let n : List ℕ = 10 ∷ [] in
    let front : List ℕ = (before ++ k) ++ n in
    ap (λ xs. xs ++ rest) (append_assoc front o n) ∙ append_assoc front (o ++ n) rest
    ∙ ap (λ xs. xs ++ ((o ++ n) ++ rest)) (append_assoc before k n) ∙ append_assoc before (k ++ n) ((o ++ n) ++ rest)

pub answer_lines : {T E : Type 0} (m : Model) (a : RationalAnswer) (before t u v w after : List ℕ)
    (lines : List (List ℕ)) (result : Result T E) →
    t ≡ before ++ wide_known_text a.known → u ≡ t ++ 10 ∷ [] → v ≡ u ++ origin_text a.origin → w ≡ v ++ 10 ∷ [] →
    lines ≡ wide_certificate_lines m a.certificate → OnOk result (after ≡ w ++ ended_lines lines) →
    OnOk result (after ≡ before ++ ended_lines
    (wide_known_text a.known ∷ origin_text a.origin ∷ wide_certificate_lines m a.certificate))
unfolding ended_lines
answer_lines m a before t u v w after lines (Ok done) is_t is_u is_v is_w are is =
    is ∙ ap (λ xs. xs ++ ended_lines lines) (is_w ∙ ap (λ xs. xs ++ 10 ∷ []) (is_v
    ∙ ap (λ xs. xs ++ origin_text a.origin) (is_u ∙ ap (λ xs. xs ++ 10 ∷ []) is_t)))
    ∙ ap (λ ls. ((((before ++ wide_known_text a.known) ++ 10 ∷ []) ++ origin_text a.origin) ++ 10 ∷ []) ++ ended_lines ls) are
    ∙ joined before (wide_known_text a.known) (origin_text a.origin) (ended_lines (wide_certificate_lines m a.certificate))
answer_lines m a before t u v w after lines (Err why) is_t is_u is_v is_w are is = tt

-- ---- the whole

-- the whole lines of an exact end, with the model's form, are those that `basis --wide` writes
whole_is : (m : Model) (end : RationalEnd) → whole_lines m (form_of (Some number_limit) m) end ≡ based_lines m end
whole_is m (Answered a) = refl
whole_is m Open = refl

-- with the form that the model has, the whole lines of an exact end are those that `basis --wide` writes
whole_based : (m : Model) (form : Result Form (FormFault ℚ)) (end : RationalEnd) →
    form_of (Some number_limit) m ≡ form → whole_lines m form end ≡ based_lines m end
whole_based m form end formed = ap (λ o. whole_lines m o end) (sym formed) ∙ whole_is m end

-- where the model has no form, the whole lines of an exact end are its lines without a basis
formless_is : (m : Model) (why : FormFault ℚ) (end : RationalEnd) → exact_lines m end ≡ whole_lines m (Err why) end
formless_is m why (Answered a) = sym (append-nil (exact_lines m (Answered a)))
formless_is m why Open = refl

-- without a form there is no basis
pub formless_based : (m : Model) (why : FormFault ℚ) (end : RationalEnd) → form_of (Some number_limit) m ≡ Err why →
    exact_lines m end ≡ based_lines m end
formless_based m why end formless = formless_is m why end ∙ whole_based m (Err why) end formless
