-- The model that a session has, by what it was asked and what it replied.
use Rattle.std.specs.Prelude.{ℕ, Option, Some, None, Ok, Err, List, [], ◌∷◌}
use Rattle.spec_model.specs.Model.{Model}
use Rattle.spec_edit.specs.Edited.{ExactEdit, OrFault, edited}
use Rattle.spec_server.specs.declared.asks.Ask.TheVariants as ask
use Rattle.spec_server.specs.declared.asks.Reply.TheVariants as reply
use Rattle.spec_server.specs.declared.command.Plain.TheVariants as command
use Rattle.spec_server.specs.Machine.{ExactAsk, ExactReply}
use Rattle.spec_server.specs.Exchanges.{Exchange, of_session}

-- the model that an edit's result holds; none where the result is the fault by which the edit is refused
abbrev pub made : OrFault Model → Option Model
made (Ok m) = Some m
made (Err why) = None

-- the model that an edit makes of the one held; none where none was held, or where the edit is refused
abbrev pub after_edit : Option Model → ExactEdit → Option Model
after_edit None e = None
after_edit (Some m) e = made (edited m e)

-- the model held after an edit was asked, by the one before and the reply: where the reply is OK the edited one, if the
-- edit makes one; else the one before
abbrev pub after_change : Option Model → ExactEdit → ExactReply → Option Model
after_change held e reply.Done = after_edit held e
after_change held e replied = held

-- the model after a request to load m, by the reply: m where it is LOADED, else the one before
abbrev pub after_load : Option Model → Model → ExactReply → Option Model
after_load held m (reply.Loaded rows columns) = Some m
after_load held m replied = held

-- the model after QUIT, by the reply: none where it is BYE, else the one before
abbrev pub after_quit : Option Model → ExactReply → Option Model
after_quit held reply.Bye = None
after_quit held replied = held

-- the model of a session after a request with this reply: an edit, a load or QUIT may change it;
-- else it is the one before
abbrev pub after_exchange : Option Model → ExactAsk → ExactReply → Option Model
after_exchange held (ask.Loaded m) replied = after_load held m replied
after_exchange held (ask.Plain (command.Change e)) replied = after_change held e replied
after_exchange held (ask.Plain command.Quit) replied = after_quit held replied
after_exchange held asked replied = held

-- the model of a session after these exchanges, one after the other, where it held this one before
abbrev pub after_exchanges : Option Model → List Exchange → Option Model
after_exchanges held [] = held
after_exchanges held (x ∷ xs) = after_exchanges (after_exchange held x.ask x.reply) xs

-- The model of the session of this number after its own among these exchanges, by their requests and replies: that of
-- its last LOAD with the reply LOADED, as edited since with the reply OK. None at first and after QUIT.
abbrev pub model_then : ℕ → List Exchange → Option Model
model_then session xs = after_exchanges None (of_session session xs)
