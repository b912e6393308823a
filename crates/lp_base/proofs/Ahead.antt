-- What is ahead in the buffer of a reader of lines, before a read of its source and after it.
--
-- `near`: the items between two places of a list, the second of which is at most 4,096, are at most 4,096.
-- `near_front`: the first `n` items of a list, with `n` at most 4,096, are at most 4,096.
-- `no_ahead`: where the buffer's bytes end at or before the place of the next one, no byte is unread.
-- `reads_none`: at the end of the input `ReadsOn` holds with nothing read and the answer `false`.
-- `reads_some`: where bytes of the buffer are unread, `ReadsOn` holds with nothing read and the answer `true`.
-- `refilled_len`: 4,096 bytes written over the front of a buffer of 4,096 leave its length.
-- `refilled`: the first `n` bytes of a buffer that was written over are those of what was written.
-- `reads_filled`: where nothing was ahead, `ReadsOn` holds after a read that fills the buffer's front. No byte read is
--   the end.
use Rattle.std.proofs.Common.{◌≡◌, ℕ, zero, suc, ◌<◌, ◌≤◌, List, [], ◌++◌, length, take, drop}
use Rattle.std.proofs.Common.{nat_eq, nat_lt, Bool, true, false, Option, Ok, inl, inr, refl, ap, sym}
use Rattle.std.proofs.Common.{subst, ◌∙◌, arith, rules}
use Rattle.std.proofs.Common.{length-take, length-drop, length-append, append-nil}
use Rattle.std.proofs.lemmas.List.{drop_all, take-take, take-append-le}
use Rattle.std.proofs.KnownBytes.{Consumes-nil}
use Rattle.std.specs.Io.KnownBytes.{Consumes, IsAtEnd}
use Rattle.lp_base.specs.Buffer.{IsBuffer, state_of}
use Rattle.lp_base.specs.LinesState.{LinesState}
use Rattle.lp_base.specs.NextLine.{HasMore, ReadsOn}
use Rattle.lp_base.specs.declared.lines.Lines.TheInside.{Inside}

pub near : (from to : ℕ) (xs : List ℕ) → to ≤ 4096 → length (drop from (take to xs)) ≤ 4096
near from to xs h = omega (arith, length-drop from (take to xs), length-take to xs, h)

pub near_front : (n : ℕ) (xs : List ℕ) → n ≤ 4096 → length (take n xs) ≤ 4096
near_front n xs h = omega (arith, length-take n xs, h)

pub no_ahead : (l : Inside) (s : LinesState) → state_of l ≡ s → l.to ≤ l.from → s.ahead ≡ []
no_ahead l s e h =
    ap (λ (r : LinesState). r.ahead) (sym e)
    ∙ drop_all l.from (take l.to l.buffer.items) (omega (arith, length-take l.to l.buffer.items, h))

-- ---- no read is needed
pub reads_none : (o : Option (List ℕ)) (l : Inside) (s : LinesState) → state_of l ≡ s → IsBuffer l → l.ended ≡ true →
    ReadsOn o o s s (Ok false)
reads_none o l s e b h =
    let ended : s.ended ≡ true = ap (λ (r : LinesState). r.ended) (sym e) ∙ h in
    let none : s.ahead ≡ [] = no_ahead l s e (omega (arith, b.ended h)) in
    ([], Consumes-nil o, sym (append-nil s.ahead), refl, (none, ended, inl (ended, refl)))

pub reads_some : (o : Option (List ℕ)) (l : Inside) (s : LinesState) → state_of l ≡ s → IsBuffer l → l.ended ≡ false →
    l.from < l.to → ReadsOn o o s s (Ok true)
reads_some o l s e b h k =
    let live : s.ended ≡ false = ap (λ (r : LinesState). r.ended) (sym e) ∙ h in
    let some : 0 < length (drop l.from (take l.to l.buffer.items)) =
    omega (arith, length-drop l.from (take l.to l.buffer.items), length-take l.to l.buffer.items, b.within, k) in
    let here : 0 < length s.ahead = subst (λ (r : LinesState). 0 < length r.ahead) e some in
    ([], Consumes-nil o, sym (append-nil s.ahead), refl, (here, live, live))

-- ---- the buffer is filled from its start
pub refilled_len : (len : ℕ) (buf old : List ℕ) → length buf ≡ 4096 → len ≡ 4096 →
    length (take len (buf ++ old)) ≡ 4096
refilled_len len buf old h k = omega (arith, length-take len (buf ++ old), length-append buf old, h, k)

pub refilled : (n len : ℕ) (buf old : List ℕ) → n ≤ length buf → length buf ≤ len →
    take n (take len (buf ++ old)) ≡ take n buf
refilled n len buf old h k = take-take n len (buf ++ old) (omega (arith, h, k)) ∙ take-append-le n buf old h

pub reads_filled : (before after : Option (List ℕ)) (s : LinesState) (ahead buf : List ℕ) (given n : ℕ) →
    s.ahead ≡ [] → s.ended ≡ false → given ≡ s.given → ahead ≡ take n buf → n ≤ length buf → 0 < length buf →
    Consumes before after (take n buf) → (n ≡ 0 → 0 < length buf → IsAtEnd after) →
    ReadsOn before after s (record { ahead = ahead; given = given; ended = nat_eq n 0 }) (Ok (nat_lt 0 n))
reads_filled before after s ahead buf given n none live same is within room moved last =
    (take n buf, moved, is ∙ ap (λ (xs : List ℕ). xs ++ take n buf) (sym none), same, more n is within last)
  where
    more : (n : ℕ) → ahead ≡ take n buf → n ≤ length buf → (n ≡ 0 → 0 < length buf → IsAtEnd after) →
        HasMore (nat_lt 0 n) s (record { ahead = ahead; given = given; ended = nat_eq n 0 }) before after
    more zero is within last = (is, refl, inr (live, last refl room))
    more (suc k) is within last =
        let less : nat_lt 0 (suc k) ≡ true = search rules in
        let other : nat_eq (suc k) 0 ≡ false = search rules in
        let some : 0 < length ahead =
        subst (λ (xs : List ℕ). 0 < length xs) (sym is) (omega (arith, length-take (suc k) buf, within)) in
        subst (λ (m : Bool). HasMore m s
        (record { ahead = ahead; given = given; ended = nat_eq (suc k) 0 }) before after)
        (sym less) (some, live, other)
