-- An element that follows others in a list: where it is found, what is read there, and what a change there does.
--
-- `place_behind`: an element whose name no element before it has is found by that name right behind them.
-- `changed_behind`: a change at the place behind some elements changes the element there alone.
-- `there_behind`: what is read at the place behind some elements is the element there.
use Rattle.std.proofs.Common.{◌≡◌, Some, List, [], ◌∷◌, ◌++◌, length, map, get_or, refl, ap, length-append, arith}
use Rattle.std.specs.List.{list_any, position, position_or_len}
use Rattle.std.proofs.lemmas.Bool.{or_parts}
use borrow.Author.Tests.{lt-ltb}
use Rattle.spec_text.specs.Words.{same}
use Rattle.spec_model.specs.Model.{Name}
use Rattle.spec_mps.specs.Sides.{changed_at}
use Rattle.spec_mps.proofs.WrittenRows.{IsAbsent}
use Rattle.spec_mps.proofs.WrittenPlaces.{same_itself}

-- an element with a name that none before it has is the first with that name
len_behind : {X : Type 0} (f : X → Name) (name : Name) (done : List X) (x : X) (more : List X) →
    IsAbsent name (map f done) → f x ≡ name → position_or_len (λ y. same (f y) name) (done ++ x ∷ more) ≡ length done
len_behind f name [] x more h e = rw (e, same_itself name) refl
len_behind f name (y ∷ done) x more h e =
    let p = or_parts (same (f y) name) (list_any (λ n. same n name) (map f done)) h in
    rw (p.0, len_behind f name done x more p.1 e) (omega arith)

pub place_behind : {X : Type 0} (f : X → Name) (name : Name) (done : List X) (x : X) (more : List X) →
    IsAbsent name (map f done) → f x ≡ name → position (λ y. same (f y) name) (done ++ x ∷ more) ≡ Some (length done)
place_behind f name done x more h e =
    let l = length-append done (x ∷ more) in
    rw (len_behind f name done x more h e, lt-ltb (length done) (length (done ++ x ∷ more)) (omega arith)) refl

pub changed_behind : {X : Type 0} (change : X → X) (done : List X) (x : X) (more : List X) →
    changed_at (length done) change (done ++ x ∷ more) ≡ done ++ change x ∷ more
changed_behind change [] x more = refl
changed_behind change (y ∷ done) x more = ap (λ l. y ∷ l) (changed_behind change done x more)

pub there_behind : {X : Type 0} (done : List X) (x : X) (more : List X) (d : X) →
    get_or (done ++ x ∷ more) (length done) d ≡ x
there_behind [] x more d = refl
there_behind (y ∷ done) x more d = there_behind done x more d
