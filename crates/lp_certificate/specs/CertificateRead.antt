-- A text of a certificate that is read line by line, over the type of its numbers.
use Rattle.std.specs.Prelude.{ℕ, Option}
use Rattle.spec_check.specs.Raw.{RawOf}

-- the state of a reader of a certificate: the kind and the parts that were read, if any, and the number of lines
pub record CertificateRead (F : Type 0) : Type 0 where
  pub raw : Option (RawOf F)
  pub lines : ℕ
