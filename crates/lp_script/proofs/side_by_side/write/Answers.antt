-- The replies so far, and all of them.
use Rattle.std.proofs.Common.{ℕ, arith, length, subst, sym, take}
use Rattle.std.specs.Io.KnownBytes.{Appends}
use Rattle.std.specs.List.{zip}
use Rattle.std.proofs.lemmas.List.{length_push}
use Rattle.std.proofs.lemmas.Slice.Zip.{zip_turn, zip_end}
use Rattle.lp_script.proofs.Replying.{out_of, takes_first, appends_more, takes_more, is_pair, all_out}
use Rattle.lp_script.proofs.side_by_side.write.Goals as goal

pub returns-in_err-write_reply-clause-part : goal.returns-in_err-write_reply-clause-part
returns-in_err-write_reply-clause-part g c =
    let sessions = c.args.sessions.now in
    let replies = c.args.replies.now in
    let t = zip_turn sessions replies c.loop-session.yielded _ _ c.next.new.self c.next.result (cc)
    (search (c.into_iter-session-iterator.ensures, c.zip-session-items.ensures)) c.loop-session.yielded_by
    (c.in-Some.session, c.in-Some.reply) c.in-Some.is c.next.ensures.steps in
    let p = is_pair sessions replies (length c.loop-session.yielded) c.in-Some.session.now c.in-Some.reply.now t.0 t.1
    (t.2 _) (t.3 _) in
    takes_more _ _ (zip sessions replies) (length c.loop-session.yielded) c.loop-session.invariant.written _
    (c.in-Some.session.now, c.in-Some.reply.now) p.0 p.1 c.write_reply.ensures.part

pub loop-session-preserved : goal.loop-session-preserved
loop-session-preserved g c =
    let sessions = c.args.sessions.now in
    let replies = c.args.replies.now in
    let t = zip_turn sessions replies c.loop-session.yielded _ _ c.next.new.self c.next.result (cc)
    (search (c.into_iter-session-iterator.ensures, c.zip-session-items.ensures)) c.loop-session.yielded_by
    (c.in-Some.session, c.in-Some.reply) c.in-Some.is c.next.ensures.steps in
    let p = is_pair sessions replies (length c.loop-session.yielded) c.in-Some.session.now c.in-Some.reply.now t.0 t.1
    (t.2 _) (t.3 _) in
    record {
      written = subst
          (λ (n : ℕ). Appends (g.K.Sink.taken c.args.out.now) (g.K.Sink.taken c.write_reply.new.out)
          (out_of (take n (zip sessions replies))))
          (sym (length_push c.loop-session.yielded (c.in-Some.session, c.in-Some.reply)))
          (appends_more _ _ (zip sessions replies) (length c.loop-session.yielded) c.loop-session.invariant.written _
          (c.in-Some.session.now, c.in-Some.reply.now) p.0 p.1 c.in_ok-write_reply.ensures.ok);
      write = omega (arith, c.write_reply.ensures.later);
    }

pub returns-clause-ok : goal.returns-clause-ok
returns-clause-ok g c =
    let sessions = c.args.sessions.now in
    let replies = c.args.replies.now in
    let all = zip_end sessions replies c.loop-session.yielded _ _ c.next.new.self c.next.result (cc)
    (search (c.into_iter-session-iterator.ensures, c.zip-session-items.ensures)) c.loop-session.yielded_by c.in-None.is
    c.next.ensures.steps in
    subst (Appends (g.K.Sink.taken c.args.out.now) (g.K.Sink.taken c.loop-session.out))
    (all_out sessions replies (length c.loop-session.yielded) all) c.loop-session.invariant.written

pub returns-clause-part : goal.returns-clause-part
returns-clause-part g c =
    takes_first _ _ (zip c.args.sessions.now c.args.replies.now) (length c.loop-session.yielded)
    c.loop-session.invariant.written
