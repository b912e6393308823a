-- Replies that two runs of one session may give to the same asks.
use Rattle.std.specs.Prelude.{ℕ, ◌≡◌, ◌⊎◌, List, [], ◌∷◌, codes}
use Rattle.std.specs.List.{AllByRecursion}
use Rattle.spec_server.specs.declared.asks.Ask.TheVariants as ask
use Rattle.spec_server.specs.declared.asks.Reply.TheVariants as reply
use Rattle.spec_server.specs.declared.asks.Reply.TheVariants.{Known, Past, Spent}
use Rattle.spec_server.specs.declared.command.Plain.TheVariants as command
use Rattle.spec_server.specs.Machine.{ExactAsk, ExactReply}
use Rattle.spec_server.specs.Exchanges.{Exchange}

-- one of the two replies knows an answer, and the other passed the limit or spent its budget
abbrev pub IsWon : ExactReply → ExactReply → Type 0
IsWon (Known a) (Past p) = Unit {0}
IsWon (Known a) (Spent n) = Unit {0}
IsWon (Past p) (Known b) = Unit {0}
IsWon (Spent n) (Known b) = Unit {0}
IsWon a b = ⊥

-- the line is `OPEN`, by which an exact solve says that it knows nothing
abbrev pub IsOpen : List ℕ → Type 0
IsOpen line = line ≡ codes "OPEN"

-- The reply lines of two exact solves: neither list is empty, and their first lines are the same, or one of these is
-- `OPEN`.
abbrev pub IsWonLine : List (List ℕ) → List (List ℕ) → Type 0
IsWonLine (line ∷ more) (line' ∷ more') = (line ≡ line') ⊎ (IsOpen line ⊎ IsOpen line')
IsWonLine lines lines' = ⊥

-- The two replies to this request may differ: to `HOW` if both tell how; to `CERT` if both are certificates; to `SOLVE`
-- if one knows an answer and the other is `PAST` or `SPENT`; to `WIDE` if their first lines are the same or one is
-- `OPEN`. No other replies may.
abbrev pub MayDiffer : ExactAsk → ExactReply → ExactReply → Type 0
MayDiffer (ask.Plain command.How) (reply.Found how pivots publication) (reply.Found how' pivots' publication') =
    Unit {0}
MayDiffer (ask.Plain command.Cert) (reply.Certified lines) (reply.Certified lines') = Unit {0}
MayDiffer (ask.Plain command.Solve) a b = IsWon a b
MayDiffer (ask.Plain command.Wide) (reply.Wide lines) (reply.Wide lines') = IsWonLine lines lines'
MayDiffer asked a b = ⊥

-- two replies to this request are the same, or are such that replies to it may differ so
abbrev pub IsSameBut : ExactAsk → ExactReply → ExactReply → Type 0
IsSameBut asked a b = (a ≡ b) ⊎ MayDiffer asked a b

-- two lists of exchanges are equally long, and the two replies in each place are the same, or may differ so to the
-- first list's request
abbrev pub RepliesAgree : List Exchange → List Exchange → Type 0
RepliesAgree [] [] = Unit {0}
RepliesAgree (x ∷ xs) (y ∷ ys) = IsSameBut x.ask x.reply y.reply × RepliesAgree xs ys
RepliesAgree xs ys = ⊥

-- no reply of the exchanges says that memory ran out
abbrev pub HasMemory : List Exchange → Type 0
HasMemory xs = AllByRecursion (λ x. x.reply ≡ reply.Memory → ⊥) xs
