-- Two runs of the same asks, by any numbers of workers.
use Rattle.std.proofs.Common.{◌≡◌, ℕ, Bool, true, false, List, [], ◌∷◌, map, refl, sym, ap, ◌∙◌, cond, nat_eq}
use Rattle.std.specs.List.{filter}
use Rattle.spec_server.specs.declared.asks.Asked.{Asked}
use Rattle.spec_server.specs.Machine.{ExactAsk}
use Rattle.spec_server.specs.Exchanges.{Exchange, asked_in, of_session}
use Rattle.spec_truth.specs.Agree.{HasMemory, RepliesAgree}
use Rattle.spec_truth.proofs.Agreement.{runs_agree}
use Rattle.spec_serve.specs.Workers.{RunsBy}

-- the requests of this session among those of all, in order
abbrev asks_of : ℕ → List (Asked ExactAsk) → List ExactAsk
asks_of session asks =
    map (λ (a : Asked ExactAsk). a.ask) (filter (λ (a : Asked ExactAsk). nat_eq a.session session) asks)

-- the requests of a session in exchanges with one more before them, or not, are those of the session among all requests
asked_more : (session : ℕ) (x : Exchange) (xs : List Exchange) (t : Bool) →
    map (λ (y : Exchange). y.ask) (of_session session xs) ≡ asks_of session (map asked_in xs) →
    map (λ (y : Exchange). y.ask) (cond t (x ∷ of_session session xs) (of_session session xs))
    ≡ map (λ (a : Asked ExactAsk). a.ask)
    (cond t (asked_in x ∷ filter (λ (a : Asked ExactAsk). nat_eq a.session session) (map asked_in xs))
    (filter (λ (a : Asked ExactAsk). nat_eq a.session session) (map asked_in xs)))
asked_more session x xs true more = ap (λ zs. x.ask ∷ zs) more
asked_more session x xs false more = more

-- the requests of a session's exchanges are those of the session among the requests of all exchanges
asked_of : (session : ℕ) (xs : List Exchange) →
    map (λ (x : Exchange). x.ask) (of_session session xs) ≡ asks_of session (map asked_in xs)
asked_of session [] = refl
asked_of session (x ∷ xs) = asked_more session x xs (nat_eq x.session session) (asked_of session xs)

-- two runs with the same requests, by any numbers of workers, give a session replies that agree, with memory enough
pub workers_agree : (workers workers' places places' session : ℕ) (xs ys : List Exchange) →
    RunsBy workers places xs → RunsBy workers' places' ys → map asked_in xs ≡ map asked_in ys →
    HasMemory (of_session session xs) → HasMemory (of_session session ys) →
    RepliesAgree (of_session session xs) (of_session session ys)
workers_agree workers workers' places places' session xs ys run run' same =
    let one = run.many.alone session in
    let other = run'.many.alone session in
    runs_agree places places' (of_session session xs) (of_session session ys) one.0 other.0 one.1 other.1
    (asked_of session xs ∙ ap (asks_of session) same ∙ sym (asked_of session ys))
