-- What a line is answered.
use Rattle.std.specs.Prelude.{ℕ, ◌≡◌, Some}
use Rattle.spec_certificate.specs.declared.progress.Progress.TheVariants as progress
use Rattle.spec_check.specs.Raw.{RawOf}
use Rattle.spec_certificate.specs.Text.{OutcomeOf}
use Rattle.lp_base.specs.declared.feed.Feed.{Feed}
use Rattle.lp_base.specs.declared.feed.Feed.TheVariants as feed
use Rattle.lp_certificate.specs.CertificateRead.{CertificateRead}

-- line n leads to what was read with it, and the reader `new` has that, and n lines
pub record GoesOn {F : Type 0} (outcome : OutcomeOf F) (n : ℕ) (new : CertificateRead F) : Type 0 where
  pub raw : RawOf F
  pub state : outcome ≡ progress.More raw
  pub kept : new ≡ record { raw = Some raw; lines = n }

-- line n does not fit, and the number that is given is n
pub record IsUnfit {F : Type 0} (outcome : OutcomeOf F) (n line : ℕ) : Type 0 where
  pub state : outcome ≡ progress.Unfit
  pub number : line ≡ n

-- The code's answer to line n fits its outcome: more is wanted, and the reader is `new`; or the certificate; or line n
-- does not fit. Of an answer for lack of memory nothing is asked.
abbrev pub Feeds : {F : Type 0} → OutcomeOf F → ℕ → CertificateRead F → Feed (RawOf F) ℕ → Type 0
Feeds outcome n new feed.More = GoesOn outcome n new
Feeds outcome n new (feed.Done raw) = outcome ≡ progress.Done raw
Feeds outcome n new (feed.Refused line) = IsUnfit outcome n line
Feeds outcome n new feed.NoMemory = Unit {0}
