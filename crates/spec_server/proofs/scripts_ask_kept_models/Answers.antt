use Rattle.spec_server.specs.Script.{Between}
use Rattle.spec_server.proofs.ScriptKept.{lines_kept, ended_kept, script_kept}
use Rattle.spec_server.proofs.scripts_ask_kept_models.Goals as goal

pub returns : goal.returns
returns c =
    record { lines = λ addressing lines. lines_kept addressing Between lines; ended = ended_kept; whole = script_kept }
