-- What a worker has of a server before its turn and after it.
use Rattle.std.specs.Prelude.{ℕ, ◌≡◌, ◌≤◌, List, [], ◌∷◌, Vec, length, map, vec_capacity, true, false}
use Rattle.spec_server.specs.Machine.{State, opening}
use Rattle.spec_serve.specs.declared.link_end.LinkEnd.{LinkEnd}
use Rattle.basis_board.specs.declared.board.Board.{Board}
use Rattle.basis_board.specs.Id.{id_of}
use Rattle.basis_board.specs.Known.{Known}
use Rattle.basis_board.specs.Rule.{Consistent}
use Rattle.basis_board.specs.declared.seats.View.{View}
use Rattle.lp_base.specs.Causes.{Rose}
use Rattle.lp_base.specs.Listening.{ListenerState}
use Rattle.lp_session.specs.Boarding.{NotesOn}
use Rattle.lp_workers.specs.declared.hiring.Worker.{Worker}
use Rattle.lp_serve.specs.Service.{Steps}
use Rattle.lp_serve.specs.Serving.{Served, Listened}
use Rattle.lp_serve.specs.declared.desk.Desk.{Desk}

-- the listeners of desks, in their order; a desk is what a worker has of a server
abbrev pub nets_of : {N : Type 0} → List (Desk N) → List N
nets_of {N} desks = map (λ (desk : Desk N). desk.net) desks

-- how the links of a desk ended
abbrev pub ends_in : {N : Type 0} → Desk N → List LinkEnd
ends_in desk = desk.ends.items

-- the vector is empty, and has room for the ends of so many links
abbrev pub IsRoom : {Z : Type 0} → ℕ → Vec LinkEnd Z → Type 0
IsRoom each ends = (ends.items ≡ []) × (each ≤ vec_capacity ends)

-- a desk before its turn: it has served no link, has room for the ends of so many, and its listener has not failed
pub record IsOpen {N : Type 0} (each : ℕ) (desk : Desk N) : Type 0 where
  pub none : desk.ends.items ≡ []
  pub room : each ≤ vec_capacity desk.ends
  pub well : desk.has_failed ≡ false

-- one pass served these links, one after the other, each session from its opening: what it knew, v, became w
abbrev pub LinkSteps : View → List Served → View → Type 0
LinkSteps v [] w = w ≡ v
LinkSteps v (x ∷ links) w =
    (u : View) × (last : State) × Steps v opening x.exchanges u last × LinkSteps u links w

-- After its turn a worker has served these links of its desk's listener, with their ends noted: `each` of them, or
-- fewer where the listener has failed. Its pass keeps its part of the board, and only adds to what it knew.
pub record ServedLinks {N : Type 0} (state : N → ListenerState) (board : Board) (each : ℕ) (old new : Worker (Desk N))
    (links : List Served) : Type 0 where
  pub of_board : new.pass.board ≡ id_of board
  pub share : new.pass.view.share ≡ old.pass.view.share
  pub consistent : Consistent new.pass.view
  pub listened : Listened board.places each (state old.job.net) (state new.job.net) links
  pub ends : new.job.ends.items ≡ map (λ (x : Served). x.ended) links
  pub steps : LinkSteps old.pass.view links new.pass.view
  pub notes : NotesOn old.pass new.pass
  pub all : new.job.has_failed ≡ false → length links ≡ each
  pub failed : new.job.has_failed ≡ true → Rose (state old.job.net).accept_faults (state new.job.net).accept_faults

-- in its turn the worker has served some links of its desk's listener
pub record HasServed {N : Type 0} (state : N → ListenerState) (board : Board) (each : ℕ) (old new : Worker (Desk N)) :
    Type 0 where
  pub links : List Served
  pub served : ServedLinks state board each old new links

-- the turn of a desk by a pass: it has served some links of the desk's listener
abbrev pub Took : {N : Type 0} → (N → ListenerState) → ℕ → Board → Desk N → Known → Desk N → Known → Type 0
Took state each board old pass new passed =
    HasServed state board each (record { job = old; pass = pass }) (record { job = new; pass = passed })
