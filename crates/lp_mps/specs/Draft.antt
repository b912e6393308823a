-- The code's draft of a model, as the definition has it.
use Rattle.std.specs.Prelude.{Option, Some, None, []}
use Rattle.spec_model.specs.Model.{Name}
use Rattle.spec_mps.specs.Reader.{State}
use Rattle.lp_mps.specs.declared.read.draft.Draft.{Draft}
use Rattle.lp_mps.specs.Sets.{set_of}

-- the name of a model that the code holds, as the definition has it: empty where there is none
abbrev pub name_of : Option Name → Name
name_of None = []
name_of (Some name) = name

-- the code's draft of a model as the definition's state of a reader
abbrev pub state_of : Draft → State
state_of d =
    record {
      part = d.part;
      seen = d.seen;
      name = name_of d.name;
      sense = d.sense;
      objective = d.objective;
      rows = d.rows;
      offset = d.offset;
      columns = d.columns.whole;
      column = d.columns.current;
      lowered = d.lowered.items;
      paired = d.paired;
      set = set_of d.set;
    }
