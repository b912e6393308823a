-- Two runs of one session that is asked the same.
use Rattle.std.proofs.Common.{◌≡◌, ℕ, List, [], ◌∷◌, map, Option, Some, None, Ok, Err, refl, sym, ap, ◌∙◌, subst, ◌⊎◌}
use Rattle.std.proofs.Common.{inl, inr}
use Rattle.spec_exact.specs.Fraction.{ℚ}
use Rattle.spec_exact.specs.declared.past.Past.{Past as Refused}
use Rattle.spec_model.specs.Model.{Model}
use Rattle.spec_edit.specs.Edited.{ExactEdit, OrFault, edited}
use Rattle.spec_check.specs.declared.solve_end.SolveEnd.TheVariants.{Ended, Past, Spent}
use Rattle.spec_runs.specs.Cold.{ExactSolveEnd}
use Rattle.spec_solve.specs.Answers.{MayAnswer}
use Rattle.spec_solve.proofs.TrueAnswers.{ended_true, one_truth}
use Rattle.spec_board.specs.Reads.{ExactRead}
use Rattle.spec_server.specs.declared.asks.Ask.TheVariants as ask
use Rattle.spec_server.specs.declared.asks.Reply.TheVariants as reply
use Rattle.spec_server.specs.declared.command.Plain.TheVariants as command
use Rattle.spec_server.specs.Machine.{ExactAsk, ExactReply, ExactLastAnswer, State, opening, check_reply, write_reply}
use Rattle.spec_server.specs.Machine.{answer_of, cert_reply, how_reply, solve_due, wide_due, edit_due, change_due, due}
use Rattle.spec_server.specs.Step.{AloneStep}
use Rattle.spec_server.specs.Exchanges.{Exchange, AloneRun}
use Rattle.spec_server.specs.WideLines.{wide_lines}
use Rattle.spec_server.proofs.Simply.{SolveStep, WideStep, Does, WantsMemory, step_simply}
use Rattle.spec_truth.specs.Agree.{IsWon, MayDiffer, IsSameBut, RepliesAgree, HasMemory}
use Rattle.spec_truth.proofs.WideReplies.{ends_agree}

-- ---- answers

-- where two ends by an operation past the limit are the same, the operations are
past_same : (p q : Refused ℚ) → ◌≡◌ {A = ExactSolveEnd} (Past p) (Past q) → p ≡ q
past_same p q e = cc

-- an end by an operation past the limit is no end by a spent budget
past_is_not_spent : (p : Refused ℚ) → ◌≡◌ {A = ExactSolveEnd} (Past p) Spent → ⊥
past_is_not_spent p e = cc

-- two solves of a model within one budget give the same answer, or one of them knows an answer where the other does not
answers_same_but : (m : Model) (budget : ℕ) (a b : ExactSolveEnd) → MayAnswer m budget a → MayAnswer m budget b →
    (answer_of budget a ≡ answer_of budget b) ⊎ IsWon (answer_of budget a) (answer_of budget b)
answers_same_but m budget (Ended k c left n) (Ended l d other j) p q =
    inl (ap reply.Known (one_truth m k l (ended_true m budget k c left n p) (ended_true m budget l d other j q)))
answers_same_but m budget (Ended k c left n) (Past r) p q = inr tt
answers_same_but m budget (Ended k c left n) Spent p q = inr tt
answers_same_but m budget (Past r) (Ended l d other j) p q = inr tt
answers_same_but m budget (Past r) (Past s) p q = inl (ap reply.Past (past_same r s (sym p ∙ q)))
answers_same_but m budget (Past r) Spent p q = absurd (past_is_not_spent r (sym p ∙ q.0))
answers_same_but m budget Spent (Ended l d other j) p q = inr tt
answers_same_but m budget Spent (Past s) p q = absurd (past_is_not_spent s (sym q ∙ p.0))
answers_same_but m budget Spent Spent p q = inl refl

-- ---- states

-- of two last answers both are there, or neither is
abbrev BothOrNeither : Option ExactLastAnswer → Option ExactLastAnswer → Type 0
BothOrNeither None None = Unit {0}
BothOrNeither (Some a) (Some b) = Unit {0}
BothOrNeither a b = ⊥

-- two states have the same model and the same budget, and both or neither have a last answer
record IsAlike (a b : State) : Type 0 where
  models : a.model ≡ b.model
  budgets : a.budget ≡ b.budget
  lasts : BothOrNeither a.last b.last

-- two replies to one request are the same, or may differ to it, and the two states after them are alike
record StepsAgree (asked : ExactAsk) (replied replied' : ExactReply) (new new' : State) : Type 0 where
  same : IsSameBut asked replied replied'
  alike : IsAlike new new'

-- ---- what is due

module _ (a b : State) (alike : IsAlike a b) (replied replied' : ExactReply) (new new' : State) where
  -- where alike states stay as they are, and their stated replies are the same or may differ, the two steps agree
  stays : (asked : ExactAsk) (stated stated' : ExactReply) → IsSameBut asked stated stated' →
      (replied ≡ stated) × (new ≡ a) → (replied' ≡ stated') × (new' ≡ b) → StepsAgree asked replied replied' new new'
  stays asked stated stated' s x y = record {
    same = subst (λ t. IsSameBut asked t replied') (sym x.0) (subst (IsSameBut asked stated) (sym y.0) s);
    alike = subst (λ t. IsAlike t new') (sym x.1) (subst (IsAlike a) (sym y.1) alike);
  }

  -- where alike states give the same stated reply and go on to alike states, the two steps agree
  goes : (asked : ExactAsk) (stated : ExactReply) (next next' : State) → IsAlike next next' →
      (replied ≡ stated) × (new ≡ next) → (replied' ≡ stated) × (new' ≡ next') →
      StepsAgree asked replied replied' new new'
  goes asked stated next next' s x y = record {
    same = inl (x.0 ∙ sym y.0);
    alike = subst (λ t. IsAlike t new') (sym x.1) (subst (IsAlike next) (sym y.1) s);
  }

  -- the replies of two alike states to a solve of one model are the same, or one knows an answer that the other does
  -- not
  answers_agree : (m : Model) (s : SolveStep a m replied new) (s' : SolveStep b m replied' new') →
      IsSameBut (ask.Plain command.Solve) replied replied'
  answers_agree m s s' =
      by
      (answers_same_but m a.budget s.end s'.end s.may_answer
      (subst (λ n. MayAnswer m n s'.end) (sym alike.budgets) s'.may_answer))
    where
      second : replied' ≡ answer_of a.budget s'.end
      second = s'.answer ∙ ap (λ n. answer_of n s'.end) (sym alike.budgets)

      by : (answer_of a.budget s.end ≡ answer_of a.budget s'.end) ⊎ IsWon (answer_of a.budget s.end)
          (answer_of a.budget s'.end) →
          IsSameBut (ask.Plain command.Solve) replied replied'
      by (inl e) = inl (s.answer ∙ e ∙ sym second)
      by (inr d) =
          inr (subst (λ t. MayDiffer (ask.Plain command.Solve) t replied') (sym s.answer)
          (subst (MayDiffer (ask.Plain command.Solve) (answer_of a.budget s.end)) (sym second) d))

  -- a solve of one model from two alike states gives steps that agree
  solves_agree : (m : Model) → SolveStep a m replied new → SolveStep b m replied' new' →
      StepsAgree (ask.Plain command.Solve) replied replied' new new'
  solves_agree m s s' = record {
    same = answers_agree m s s';
    alike = subst (λ t. IsAlike t new') (sym s.kept)
        (subst (IsAlike _) (sym s'.kept) (record { models = alike.models; budgets = alike.budgets; lasts = tt }));
  }

  -- a solve from two alike states, with a model or without, gives steps that agree
  solve_agrees : (held : Option Model) → Does a (solve_due a held) replied new →
      Does b (solve_due b held) replied' new' →
      StepsAgree (ask.Plain command.Solve) replied replied' new new'
  solve_agrees None x y = stays (ask.Plain command.Solve) _ _ (inl refl) x y
  solve_agrees (Some m) x y = solves_agree m x y

  -- an exact solve of one model from two alike states gives steps that agree
  wides_agree : (m : Model) → WideStep a m replied new → WideStep b m replied' new' →
      StepsAgree (ask.Plain command.Wide) replied replied' new new'
  wides_agree m s s' =
      let won = ends_agree m a.budget b.budget s.end s'.end s.is_end s'.is_end in
      stays (ask.Plain command.Wide) (reply.Wide (wide_lines m s.end)) (reply.Wide (wide_lines m s'.end))
      (inr won) (s.answer, s.stays) (s'.answer, s'.stays)

  -- an exact solve from two alike states, with a model or without, gives steps that agree
  wide_agrees : (held : Option Model) → Does a (wide_due a held) replied new →
      Does b (wide_due b held) replied' new' →
      StepsAgree (ask.Plain command.Wide) replied replied' new new'
  wide_agrees None x y = stays (ask.Plain command.Wide) _ _ (inl refl) x y
  wide_agrees (Some m) x y = wides_agree m x y

  -- an edit with one result, made or refused, from two alike states gives steps that agree
  edit_agrees : (asked : ExactAsk) (r : OrFault Model) → Does a (edit_due a r) replied new →
      Does b (edit_due b r) replied' new' → StepsAgree asked replied replied' new new'
  edit_agrees asked (Ok m) x y =
      goes asked _ _ _ (record { models = refl; budgets = alike.budgets; lasts = tt }) x y
  edit_agrees asked (Err why) x y = stays asked _ _ (inl refl) x y

  -- an edit from two alike states, with a model or without, gives steps that agree
  change_agrees : (asked : ExactAsk) (held : Option Model) (e : ExactEdit) → Does a (change_due a held e) replied new →
      Does b (change_due b held e) replied' new' → StepsAgree asked replied replied' new new'
  change_agrees asked None e x y = stays asked _ _ (inl refl) x y
  change_agrees asked (Some m) e x y = edit_agrees asked (edited m e) x y

  -- the replies to CERT are the same, or both are certificates, where both states have a last answer or neither has
  certs_agree : (held : Option Model) (p q : Option ExactLastAnswer) → BothOrNeither p q →
      IsSameBut (ask.Plain command.Cert) (cert_reply held p) (cert_reply held q)
  certs_agree None None None h = inl refl
  certs_agree None (Some p) (Some q) h = inl refl
  certs_agree (Some m) None None h = inl refl
  certs_agree (Some m) (Some p) (Some q) h = inr tt
  certs_agree held None (Some q) h = absurd h
  certs_agree held (Some p) None h = absurd h

  -- the replies to HOW are the same, or both tell how, where both states have a last answer or neither has
  hows_agree : (p q : Option ExactLastAnswer) → BothOrNeither p q →
      IsSameBut (ask.Plain command.How) (how_reply p) (how_reply q)
  hows_agree None None h = inl refl
  hows_agree (Some p) (Some q) h = inr tt
  hows_agree None (Some q) h = absurd h
  hows_agree (Some p) None h = absurd h

  -- what is due to one request from two alike states gives steps that agree
  due_agrees : (asked : ExactAsk) → Does a (due a asked) replied new → Does b (due b asked) replied' new' →
      StepsAgree asked replied replied' new new'
  due_agrees (ask.Plain (command.Write form)) x y =
      stays (ask.Plain (command.Write form)) _ _ (inl (ap (λ m. write_reply m form) alike.models)) x y
  due_agrees (ask.Plain command.Solve) x y =
      solve_agrees a.model x (subst (λ (m : Option Model). Does b (solve_due b m) replied' new') (sym alike.models) y)
  due_agrees (ask.Plain command.Cert) x y =
      stays (ask.Plain command.Cert) _ _
      (subst
      (λ (m : Option Model). IsSameBut (ask.Plain command.Cert) (cert_reply a.model a.last) (cert_reply m b.last))
      alike.models
      (certs_agree a.model a.last b.last alike.lasts)) x y
  due_agrees (ask.Plain command.How) x y = stays (ask.Plain command.How) _ _ (hows_agree a.last b.last alike.lasts) x y
  due_agrees (ask.Plain (command.Budget n)) x y =
      goes (ask.Plain (command.Budget n)) _ _ _
      (record { models = alike.models; budgets = refl; lasts = alike.lasts }) x y
  due_agrees (ask.Plain command.Wide) x y =
      wide_agrees a.model x (subst (λ (m : Option Model). Does b (wide_due b m) replied' new') (sym alike.models) y)
  due_agrees (ask.Plain command.Quit) x y =
      goes (ask.Plain command.Quit) _ _ _ (record { models = refl; budgets = refl; lasts = tt }) x y
  due_agrees (ask.Plain (command.Change e)) x y =
      change_agrees (ask.Plain (command.Change e)) a.model e x
      (subst (λ (m : Option Model). Does b (change_due b m e) replied' new') (sym alike.models) y)
  due_agrees (ask.Loaded m) x y =
      goes (ask.Loaded m) _ _ _ (record { models = refl; budgets = alike.budgets; lasts = tt }) x y
  due_agrees (ask.Misspelled fault) x y = stays (ask.Misspelled fault) _ _ (inl refl) x y
  due_agrees (ask.Checked raw) x y =
      stays (ask.Checked raw) _ _ (inl (ap (λ m. check_reply m raw) alike.models)) x y
  due_agrees (ask.Unfit line) x y = stays (ask.Unfit line) _ _ (inl refl) x y
  due_agrees (ask.Bad fault) x y = stays (ask.Bad fault) _ _ (inl refl) x y

-- ---- steps and runs

-- two alike states (`IsAlike`) stay so after one request to both, and the replies agree, with memory enough
steps_agree : (places places' : ℕ) (a b : State) → IsAlike a b → (asked : ExactAsk) (reads reads' : List ExactRead)
    (replied replied' : ExactReply) (new new' : State) →
    AloneStep places a asked reads replied new → AloneStep places' b asked reads' replied' new' →
    (replied ≡ reply.Memory → ⊥) → (replied' ≡ reply.Memory → ⊥) → StepsAgree asked replied replied' new new'
steps_agree places places' a b alike asked reads reads' replied replied' new new' s s' enough enough' =
    by (step_simply places a reads replied new asked s) (step_simply places' b reads' replied' new' asked s')
  where
    by : Does a (due a asked) replied new ⊎ WantsMemory a replied new →
        Does b (due b asked) replied' new' ⊎ WantsMemory b replied' new' → StepsAgree asked replied replied' new new'
    by (inr w) y = absurd (enough w.memory)
    by (inl x) (inr w) = absurd (enough' w.memory)
    by (inl x) (inl y) = due_agrees a b alike replied replied' new new' asked x y

-- two lists of requests that are the same begin with the same request
heads : (a b : ExactAsk) (as' bs : List ExactAsk) → a ∷ as' ≡ b ∷ bs → a ≡ b
heads a b as' bs e = cc

-- two lists of requests that are the same go on with the same requests behind the first
tails : (a b : ExactAsk) (as' bs : List ExactAsk) → a ∷ as' ≡ b ∷ bs → as' ≡ bs
tails a b as' bs e = cc

-- the requests of these exchanges, in order
abbrev asks_in : List Exchange → List ExactAsk
asks_in xs = map (λ (x : Exchange). x.ask) xs

-- two runs with the same requests from alike states (`IsAlike`) have replies that agree, with memory enough
run_agrees : (places places' : ℕ) (a b : State) (xs ys : List Exchange) (c d : State) → IsAlike a b →
    AloneRun places a xs c → AloneRun places' b ys d → asks_in xs ≡ asks_in ys → HasMemory xs → HasMemory ys →
    RepliesAgree xs ys
run_agrees places places' a b [] [] c d alike run run' e none none' = tt
run_agrees places places' a b [] (y ∷ ys) c d alike run run' e none none' = cc
run_agrees places places' a b (x ∷ xs) [] c d alike run run' e none none' = cc
run_agrees places places' a b (x ∷ xs) (y ∷ ys) c d alike run run' e none none' =
    let same : x.ask ≡ y.ask = heads x.ask y.ask (asks_in xs) (asks_in ys) e in
    let rest : asks_in xs ≡ asks_in ys = tails x.ask y.ask (asks_in xs) (asks_in ys) e in
    let s =
    steps_agree places places' a b alike x.ask x.reads y.reads x.reply y.reply run.0 run'.0 run.1
    (subst (λ asked. AloneStep places' b asked y.reads y.reply run'.0) (sym same) run'.1) none.0 none'.0 in
    (s.same, run_agrees places places' run.0 run'.0 xs ys c d s.alike run.2 run'.2 rest none.1 none'.1)

-- two runs of a session from its opening with the same requests have replies that agree, where memory never runs out
pub runs_agree : (places places' : ℕ) (xs ys : List Exchange) (last last' : State) → AloneRun places opening xs last →
    AloneRun places' opening ys last' → asks_in xs ≡ asks_in ys → HasMemory xs → HasMemory ys → RepliesAgree xs ys
runs_agree places places' xs ys last last' =
    run_agrees places places' opening opening xs ys last last' (record { models = refl; budgets = refl; lasts = tt })
