-- The logs of listeners: how they grow, and how many links are out.
--
-- `grows_none`: each log grows by no event to itself.
-- `grows_more`: a log that grows by some events and then by others grows by both.
-- `out-append`: the links out after two lists of events are those after the second, begun with those after the first.
-- `one_out`: where the last event gave a link, at least one link is out.
use Rattle.std.proofs.Common.{◌≡◌, ℕ, ◌+◌, ◌-◌, List, [], ◌∷◌, ◌++◌, Option, Some, None}
use Rattle.std.proofs.Common.{refl, sym, ap, ◌∙◌, subst, arith, append-nil}
use Rattle.std.proofs.lemmas.List.{append_assoc}
use Rattle.lp_base.specs.LinkState.{LinkState}
use Rattle.lp_base.specs.Listening.{LinkEvent, Given, Returned, Grows, HasOneOut, links_out}

-- ---- what grows

pub grows_none : (log : Option (List LinkEvent)) → Grows log log []
grows_none None = refl
grows_none (Some log) = ap Some (sym (append-nil log))

pub grows_more : (a b c : Option (List LinkEvent)) (xs ys : List LinkEvent) → Grows a b xs → Grows b c ys →
    Grows a c (xs ++ ys)
grows_more None None c xs ys first second = second
grows_more None (Some b) c xs ys first second = cc
grows_more (Some a) b c xs ys first second = by (subst (λ log. Grows log c ys) first second)
  where
    by : c ≡ Some ((a ++ xs) ++ ys) → c ≡ Some (a ++ (xs ++ ys))
    by e = e ∙ ap Some (append_assoc a xs ys)

-- ---- how many are out

-- after some events and others
pub out-append : (out : ℕ) (log more : List LinkEvent) →
    links_out out (log ++ more) ≡ links_out (links_out out log) more
out-append out [] more = refl
out-append out (Given link ∷ log) more = out-append (out + 1) log more
out-append out (Returned link ∷ log) more = out-append (out - 1) log more

-- a link that was just given has not come back
pub one_out : (log now : Option (List LinkEvent)) (link : LinkState) → Grows log now (Given link ∷ []) → HasOneOut now
one_out None None link grows = tt
one_out None (Some now) link grows = cc
one_out (Some log) now link grows =
    subst HasOneOut (sym grows) (let out = out-append 0 log (Given link ∷ []) in omega (arith, out))
