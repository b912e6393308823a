-- A step of a session in parts, between which it is told what was found, and what became of what it published.
use Rattle.std.specs.Prelude.{◌≡◌, IfSome}
use Rattle.spec_board.specs.Words.{IsWellFormed}
use Rattle.spec_board.specs.declared.read.Put.{Put}
use Rattle.spec_board.specs.Reads.{Words, Looked, front}
use Rattle.spec_server.specs.declared.halves.Next.{Next}
use Rattle.spec_server.specs.declared.halves.Next.TheVariants as next
use Rattle.spec_server.specs.declared.halves.Started.{Started}
use Rattle.spec_server.specs.declared.halves.Started.TheVariants as started
use Rattle.spec_server.specs.Machine.{ExactAsk, ExactReply, State}
use Rattle.spec_server.specs.Step.{Answers, Looks, Begins, Pending, Ends, Publishes, Works, answered, after_put}

-- what a session waits for to go on with its request: nothing where it has none, what a look found, or what became of
-- words that it publishes
pub data Awaits : Type 0 where
  Nothing : Awaits
  -- what a look for this shape found
  WhatIsFound : (shape : Words) → Awaits
  -- what became of words that it publishes
  WhatBecameOf : (pending : Pending) → Awaits

-- a session: what it holds, and what it waits for to go on with its request
pub record Standing : Type 0 where
  pub state : State
  pub awaits : Awaits

-- a session that awaits nothing
abbrev pub at_rest : State → Standing
at_rest state = record { state = state; awaits = Nothing }

-- ---- an ask begins

-- A session in the state `old` begins a request: it replies at once and awaits nothing, or it keeps its state and
-- waits for what a look-up of a shape on the board finds. `new` is how it stands then.
abbrev pub StartFits : State → ExactAsk → Started ExactReply → Standing → Type 0
StartFits old asked (started.Reply replied) new = Begins old asked (Answers replied new.state) × (new.awaits ≡ Nothing)
StartFits old asked (started.Look shape) new =
    Begins old asked (Looks shape) × (new ≡ record { state = old; awaits = WhatIsFound shape })

-- ---- a solve goes on with what was found

-- The session waits for what a look finds, and may be told this: nothing, or a place with well-formed words of the
-- shape that it looks for.
abbrev pub MayBeFound : Awaits → Looked → Type 0
MayBeFound Nothing found = ⊥
MayBeFound (WhatIsFound shape) found =
    IfSome found (λ place. IsWellFormed place.words × (front place.words ≡ shape))
MayBeFound (WhatBecameOf pending) found = ⊥

-- The solve goes on, with what was found, to publish these words, which are well-formed. The session keeps its state,
-- and waits for what becomes of them.
pub record AwaitsPut (old : State) (found : Looked) (words : Words) (new : Standing) : Type 0 where
  pub pending : Pending
  pub works : Works old found (Publishes pending)
  pub words_so : pending.words ≡ words
  pub formed : IsWellFormed words
  pub awaited : new ≡ record { state = old; awaits = WhatBecameOf pending }

-- what a session in the state `old` may do after a look-up that found this, and how it stands then: it replies and
-- waits for nothing, or publishes words and waits for what becomes of them
abbrev pub NextFits : State → Looked → Next ExactReply → Standing → Type 0
NextFits old found (next.Reply replied) new = Works old found (Ends replied new.state) × (new.awaits ≡ Nothing)
NextFits old found (next.Publish words) new = AwaitsPut old found words new

-- ---- words were published, or not

-- the session waits for what becomes of words that it publishes
abbrev pub IsPutAwaited : Awaits → Type 0
IsPutAwaited Nothing = ⊥
IsPutAwaited (WhatIsFound shape) = ⊥
IsPutAwaited (WhatBecameOf pending) = Unit {0}

-- The session waited for what becomes of its words, and was told. It gives the reply of its solve, keeps the answer
-- with what became of them, and waits for nothing.
abbrev pub PutFits : State → Awaits → Put → ExactReply → Standing → Type 0
PutFits old Nothing put replied new = ⊥
PutFits old (WhatIsFound shape) put replied new = ⊥
PutFits old (WhatBecameOf pending) put replied new =
    (replied ≡ answered old pending.end) × (new ≡ at_rest (after_put old pending put))
