-- The certificate of each kind in which all numbers are 0.
use Rattle.std.proofs.Common.{◌≡◌, ℕ, ◌+◌, List, [], ◌∷◌, ◌++◌, length, replicate, Option, Some, None, Ok, Err, sym, ap, ap₂, ◌∙◌}
use Rattle.std.proofs.lemmas.List.{length-replicate, replicate-append-replicate}
use Rattle.spec_model.specs.Model.{Model, Name, width, height}
use Rattle.spec_model.specs.Kept.{column_place}
use Rattle.spec_check.specs.declared.certificate.Certificate.TheVariants.{Optimal, Infeasible, Clash, Unbounded}
use Rattle.spec_check.specs.declared.certificate.CertificateKind.TheVariants as kind
use Rattle.spec_check.specs.Certificate.{IsFor}
use Rattle.spec_check.specs.Settle.{◌>>=◌, blank, known}
use Rattle.spec_check.specs.Raw.{ExactKind}
use Rattle.lp_certificate.specs.declared.settled.SettleError.{SettleError}
use Rattle.lp_certificate.specs.declared.settled.SettleError.TheVariants.{Fault, NoMemory}
use Rattle.lp_certificate.specs.Answer.{IsErrorOf, IsUnknown}

-- a list of n times the item v, with v behind it, is one of n + 1 times v
pub one_longer : {F : Type 0} (v : F) (n : ℕ) (list after : List F) (last : F) → list ≡ replicate n v → last ≡ v →
    after ≡ list ++ last ∷ [] → after ≡ replicate (n + 1) v
one_longer v n list after last e f h =
    h ∙ ap₂ (λ xs x. xs ++ x ∷ []) e f ∙ replicate-append-replicate n 1 v

module _ {F : Type 0} (v : F) (m : Model) (asked : ExactKind) where
  -- a list of n zeros
  abbrev pub zeros : ℕ → List F
  zeros n = replicate n v

  -- a list of n zeros is one of `count` zeros, where n is `count`
  zeros_of : (list : List F) (n count : ℕ) → list ≡ zeros n → n ≡ count → list ≡ zeros count
  zeros_of list n count e f = e ∙ ap zeros f

  -- a list of `count` zeros has `count` items
  long : (list : List F) (count : ℕ) → list ≡ zeros count → length list ≡ count
  long list count e = ap length e ∙ length-replicate count v

  -- where the kind is optimal, zeros for the columns and zeros for the rows are the blank certificate, which fits the
  -- model
  pub optimal : (x y : List F) (columns rows : ℕ) → asked ≡ kind.Optimal → columns ≡ width m → rows ≡ height m →
      ◌≡◌ {A = List F × List F} (x, y) (zeros columns, zeros rows)
      → (blank v m asked ≡ Ok (Optimal x y)) × IsFor m (Optimal x y)
  unfolding blank
  optimal x y columns rows k c r e =
      let xs = zeros_of x columns (width m) (ap (λ lists. lists.0) e) c in
      let ys = zeros_of y rows (height m) (ap (λ lists. lists.1) e) r in
      (ap (blank v m) k ∙ sym (ap₂ (λ a b. Ok (Optimal a b)) xs ys), (long x (width m) xs, long y (height m) ys))

  -- where the kind is infeasible, zeros for the rows are the blank certificate, which fits the model
  pub infeasible : (y : List F) (rows : ℕ) → asked ≡ kind.Infeasible → rows ≡ height m → y ≡ zeros rows →
      (blank v m asked ≡ Ok (Infeasible y)) × IsFor m (Infeasible y)
  unfolding blank
  infeasible y rows k r e =
      let ys = zeros_of y rows (height m) e r in
      (ap (blank v m) k ∙ sym (ap (λ b. Ok (Infeasible b)) ys), long y (height m) ys)

  -- where the kind is unbounded, zeros for the columns, twice, are the blank certificate, which fits the model
  pub unbounded : (x r : List F) (columns : ℕ) → asked ≡ kind.Unbounded → columns ≡ width m →
      ◌≡◌ {A = List F × List F} (x, r) (zeros columns, zeros columns)
      → (blank v m asked ≡ Ok (Unbounded x r)) × IsFor m (Unbounded x r)
  unfolding blank
  unbounded x r columns k c e =
      let xs = zeros_of x columns (width m) (ap (λ lists. lists.0) e) c in
      let rs = zeros_of r columns (width m) (ap (λ lists. lists.1) e) c in
      (ap (blank v m) k ∙ sym (ap₂ (λ a b. Ok (Unbounded a b)) xs rs), (long x (width m) xs, long r (width m) rs))

  -- where the kind is a clash, the blank certificate is that of the column with the name, or the fault that none has it
  clash_of : (name seen : Name) (found : Option ℕ) → asked ≡ kind.Clash name → seen ≡ name →
      found ≡ column_place m seen → blank v m asked ≡ (known found name >>= λ j. Ok (Clash j))
  unfolding blank
  clash_of name seen found k s e =
      ap (blank v m) k
      ∙ ap (λ place. known place name >>= λ j. Ok (Clash j)) (sym (e ∙ ap (column_place m) s))

  -- where column j has the name of the clash, the clash of column j is the blank certificate
  pub clash : (name seen : Name) (j : ℕ) → asked ≡ kind.Clash name → seen ≡ name → Some j ≡ column_place m seen →
      blank v m asked ≡ Ok (Clash j)
  clash name seen j k s e = clash_of name seen (Some j) k s e

  -- where no column has the name of the clash, that is the fault
  pub clash_unknown : (name seen : Name) (error : SettleError) → asked ≡ kind.Clash name → seen ≡ name →
      None ≡ column_place m seen → IsUnknown name error → IsErrorOf (blank v m asked) error
  clash_unknown name seen (Fault fault) k s e u = clash_of name seen None k s e ∙ ap Err (sym u)
  clash_unknown name seen NoMemory k s e u = tt
