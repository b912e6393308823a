-- The number so far.
use Rattle.std.proofs.Common.{◌≡◌, ◌≤◌, drop}
use Rattle.std.specs.List.{list_all}
use Rattle.spec_mps.specs.NumberText.{spelled_from}
use Rattle.spec_server.specs.Command.{is_digit}
use Rattle.lp_line.proofs.words.number_to.Given as goal

abbrev pub invariant-loop-digit : goal.invariant-loop-digit
invariant-loop-digit l = record {
  within : l.number ≤ l.last;
  spelled : spelled_from 0 l.text ≡ spelled_from l.number (drop l.digit-index l.text);
  digits : list_all is_digit l.text ≡ list_all is_digit (drop l.digit-index l.text);
}
