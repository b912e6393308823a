-- The asks of the lines that were read, or of a whole script, are the first of those that the lines of the input make.
--
-- `ended_first`: the requests of the ended lines of bytes are the first of those of all lines, whatever bytes follow.
-- `script_first`: the requests of a script's bytes are the first of those of all its lines.
use Rattle.std.proofs.Common.{◌≡◌, ℕ, Bool, true, false, nat_le, List, [], ◌++◌, length, take, refl, sym, ap, ◌∙◌, subst, append-nil}
use Rattle.spec_text.specs.declared.line.Line.{Line}
use Rattle.spec_text.specs.Lines.{lines_of, ended_lines_of, input_limit}
use Rattle.spec_server.specs.declared.addressing.Addressing.{Addressing}
use Rattle.spec_server.specs.declared.asks.Asked.{Asked}
use Rattle.spec_server.specs.Machine.{ExactAsk}
use Rattle.spec_server.specs.Script.{Between, Script, asks_from, pending_after, ended_asks_of, script_of}
use Rattle.spec_server.proofs.ScriptBytes.{script_by}
use Rattle.spec_server.proofs.ScriptLemmas.{asks_from-append}
use Rattle.spec_serve.specs.Link.{AreFirstOf}
use Rattle.spec_text_truth.proofs.ReadLines.{lines_begin}

-- these are the first that the lines of all these bytes make
abbrev pub AreFirstIn : Addressing → List (Asked ExactAsk) → List ℕ → Type 0
AreFirstIn addressing asks bytes = AreFirstOf asks (asks_from addressing Between (lines_of bytes))

-- whatever follows the bytes
pub ended_first : (addressing : Addressing) (bytes more : List ℕ) →
    AreFirstIn addressing (ended_asks_of addressing bytes) (bytes ++ more)
unfolding ended_asks_of
ended_first addressing bytes more =
    let first : List (Line (List ℕ)) = ended_lines_of (take input_limit bytes) in
    let begins = lines_begin input_limit bytes more in (
      asks_from addressing (pending_after addressing Between first) begins.0,
      ap (asks_from addressing Between) begins.1 ∙ asks_from-append addressing Between first begins.0,
    )

pub script_first : (addressing : Addressing) (bytes : List ℕ) →
    AreFirstIn addressing (script_of addressing bytes).asks bytes
script_first addressing bytes = by (nat_le (length bytes) input_limit) refl
  where
    like : (asks : List (Asked ExactAsk)) → (script_of addressing bytes).asks ≡ asks → AreFirstIn addressing asks bytes →
        AreFirstIn addressing (script_of addressing bytes).asks bytes
    like asks same first = subst (λ (of : List (Asked ExactAsk)). AreFirstIn addressing of bytes) (sym same) first

    by : (t : Bool) → nat_le (length bytes) input_limit ≡ t → AreFirstIn addressing (script_of addressing bytes).asks bytes
    by true e =
        like (asks_from addressing Between (lines_of bytes))
        (ap (λ (s : Script). s.asks) (script_by addressing bytes true e))
        ([], sym (append-nil (asks_from addressing Between (lines_of bytes))))
    by false e =
        like (ended_asks_of addressing bytes) (ap (λ (s : Script). s.asks) (script_by addressing bytes false e))
        (subst (AreFirstIn addressing (ended_asks_of addressing bytes)) (append-nil bytes) (ended_first addressing bytes []))
