-- The bits of columns, of a form or of a basis.
use Rattle.std.specs.Prelude.{ℕ}
use Rattle.spec_board.specs.Words.{form_code, basis_code}
use Rattle.lp_form.specs.declared.packing.Coded.{Coded}
use Rattle.lp_form.specs.declared.packing.Coded.TheVariants.{Bounds, Statuses}

-- the two bits that the code makes of column c: which bounds it has, for a form, or its status, for a basis
abbrev pub code_of : Coded → ℕ → ℕ
code_of (Bounds form) c = form_code form.now c
code_of (Statuses basis) c = basis_code basis.now c
