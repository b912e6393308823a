-- The reads of a pass are looks and puts.
--
-- `reads_more`: reads that were noted later stand behind the older ones when both are put in order.
-- `looks_read`: a look of a pass adds to its reads those of one look.
-- `puts_read`: a publication by a pass adds to the pass's reads those of one publication.
use Rattle.std.proofs.Common.{◌≡◌, ◌≢◌, ℕ, zero, suc, ◌+◌, Bool, true, false, List, [], ◌∷◌, ◌++◌, length, map, Some}
use Rattle.std.proofs.Common.{None, refl, sym, ap, ◌∙◌, subst, arith}
use Rattle.std.specs.Prelude.{reverse}
use Rattle.std.proofs.lemmas.List.{append_assoc, append-nil, map-append, reverse-append, take_all}
use Rattle.spec_text.specs.Words.{same}
use Rattle.spec_text.proofs.WordLemmas.{same_true, same-refl}
use Rattle.spec_board.specs.declared.read.Read.TheVariants as read
use Rattle.spec_board.specs.Reads.{ExactRead, Looked, shape_words, front, has_shape, SeenBy, SeesDown}
use Rattle.basis_board.specs.declared.seats.View.{View}
use Rattle.basis_board.specs.declared.seats.RawRead.{RawRead}
use Rattle.basis_board.specs.declared.seats.RawRead.TheVariants.{Count, Open, See, Claim, Lost, Done}
use Rattle.basis_board.specs.declared.board.Look.{Look}
use Rattle.basis_board.specs.declared.board.Look.TheVariants.{Found, NoneReady}
use Rattle.spec_board.specs.declared.read.Put.{Put}
use Rattle.spec_board.specs.declared.read.Put.TheVariants.{Published, Full, Raced}
use Rattle.basis_board.specs.Calls.{SeesOther, Passed, Looks, Puts, IsDownTo}
use Rattle.basis_board.specs.PassReads.{exact_read, reads_of, AddsLook, AddsPut}

-- ---- lists

-- some reads more, the newest first
pub reads_more : (more old : List RawRead) →
    map exact_read (reverse (more ++ old)) ≡ map exact_read (reverse old) ++ map exact_read (reverse more)
reads_more more old = ap (map exact_read) (reverse-append more old) ∙ map-append exact_read (reverse old) (reverse more)

-- ---- looks

-- words of a shape that are another shape do not begin with the one that is asked for
other_shape : (shape words : List ℕ) → length words ≡ shape_words → words ≢ shape → has_shape shape words ≡ false
other_shape shape words size other = by (has_shape shape words) refl
  where
    by : (t : Bool) → has_shape shape words ≡ t → t ≡ false
    by true e = absurd (other (sym (take_all shape_words words (omega arith)) ∙ same_true (front words) shape e))
    by false e = refl

-- a read that finds another shape in place k, and then reads that look down from k on, are reads that look down from k
-- + 1 on
sees_past : (shape : List ℕ) (k : ℕ) (r : RawRead) (rest : List ExactRead) (found : Looked) → SeesOther shape k r →
    SeesDown shape k rest found → SeesDown shape (suc k) (exact_read r ∷ rest) found
sees_past shape k (Open j) rest found o d = (o, d)
sees_past shape k (See j words) rest found o d = (
  o.0,
  subst (λ t. SeenBy t k words rest found (SeesDown shape k rest found))
      (sym (other_shape shape words o.1 o.2))
      (take_all shape_words words (let e : length words ≡ 25 = o.1 in omega arith), d),
)
sees_past shape k (Count c) rest found o d = absurd o
sees_past shape k (Claim j) rest found o d = absurd o
sees_past shape k (Lost c) rest found o d = absurd o
sees_past shape k (Done j words) rest found o d = absurd o

-- the reads that passed by the places below c down to k, in their order, and then reads that look down from k on, are
-- reads that look down from c on
sees_passed : (shape : List ℕ) (c k : ℕ) (added : List RawRead) (rest : List ExactRead) (found : Looked) →
    Passed shape c k added → SeesDown shape k rest found →
    SeesDown shape c (map exact_read (reverse added) ++ rest) found
sees_passed shape c k [] rest found p d = subst (λ n. SeesDown shape n rest found) p d
sees_passed shape c k (r ∷ added) rest found p d =
    let one : suc k ≡ k + 1 = omega arith in
    let more : SeesDown shape c (map exact_read (reverse added) ++ exact_read r ∷ rest) found =
    sees_passed shape c (k + 1) added (exact_read r ∷ rest) found p.1
    (subst (λ n. SeesDown shape n (exact_read r ∷ rest) found) one (sees_past shape k r rest found p.0 d)) in
    let all : map exact_read (reverse (r ∷ added)) ++ rest ≡ map exact_read (reverse added) ++ exact_read r ∷ rest =
    ap (λ rs. rs ++ rest) (reads_more (r ∷ []) added)
    ∙ append_assoc (map exact_read (reverse added)) (exact_read r ∷ []) rest in
    subst (λ rs. SeesDown shape c rs found) (sym all) more

-- the reads of a look that has come down to a place are those from before, the count, and in their order those of the
-- places passed by
down_reads : (shape : List ℕ) (c k : ℕ) (v w : View) (d : IsDownTo shape c k v w) →
    reads_of w ≡ reads_of v ++ read.Count c ∷ map exact_read (reverse d.added)
down_reads shape c k v w d =
    ap reads_of d.view ∙ reads_more d.added (Count c ∷ v.reads)
    ∙ ap (λ rs. rs ++ map exact_read (reverse d.added)) (reads_more (Count c ∷ []) v.reads)
    ∙ append_assoc (reads_of v) (read.Count c ∷ []) (map exact_read (reverse d.added))

pub looks_read : (shape : List ℕ) (before after : View) (look : Look) → Looks shape before look after →
    AddsLook shape look before after
looks_read shape v w (NoneReady c) d = record {
  made = read.Count c ∷ map exact_read (reverse d.added);
  reads = record {
    count = c;
    seen = map exact_read (reverse d.added);
    down = subst (λ rs. SeesDown shape c rs None) (append-nil (map exact_read (reverse d.added)))
        (sees_passed shape c zero d.added [] None d.passed (refl, refl));
    all = refl;
  };
  all = down_reads shape c zero v w d;
}
looks_read shape v w (Found k words) f =
    let size : length words ≡ 49 = f.finds.formed.all in
    let shaped : has_shape shape words ≡ true = ap (λ ws. same ws shape) f.finds.shape_is ∙ same-refl shape in
    let one : suc k ≡ k + 1 = omega arith in
    let last : SeesDown shape (suc k) (read.Seen k words ∷ []) (Some (record { place = k; words = words })) = (
      refl,
      subst (λ t. SeenBy t k words [] (Some (record { place = k; words = words }))
          (SeesDown shape k [] (Some (record { place = k; words = words })))) (sym shaped) (size, refl, refl),
    ) in
    record {
      made = read.Count f.count ∷ map exact_read (reverse f.down.added) ++ read.Seen k words ∷ [];
      reads = record {
        count = f.count;
        seen = map exact_read (reverse f.down.added) ++ read.Seen k words ∷ [];
        down = sees_passed shape f.count (k + 1) f.down.added (read.Seen k words ∷ [])
            (Some (record { place = k; words = words })) f.down.passed
            (subst (λ n. SeesDown shape n (read.Seen k words ∷ [])
            (Some (record { place = k; words = words }))) one last);
        all = refl;
      };
      all = ap reads_of f.finds.view ∙ reads_more (See k words ∷ []) f.before.reads
          ∙ ap (λ rs. rs ++ read.Seen k words ∷ []) (down_reads shape f.count (k + 1) v f.before f.down)
          ∙ append_assoc (reads_of v) (read.Count f.count ∷ map exact_read (reverse f.down.added))
          (read.Seen k words ∷ []);
    }

-- ---- puts

pub puts_read : (words : List ℕ) (before after : View) (put : Put) → Puts before words put after →
    AddsPut words put before after
puts_read words v w (Published k) p = record {
  made = read.Count k ∷ read.Claim k ∷ read.Done k words ∷ [];
  reads = (p.inside, refl);
  all = ap reads_of p.view ∙ reads_more (Done k words ∷ Claim k ∷ Count k ∷ []) v.reads;
}
puts_read words v w (Full c) p = record {
  made = read.Count c ∷ [];
  reads = (p.all, refl);
  all = ap reads_of p.view ∙ reads_more (Count c ∷ []) v.reads;
}
puts_read words v w (Raced e) p = record {
  made = read.Count p.count ∷ read.Lost e ∷ [];
  reads = (p.count, p.grown, refl);
  all = ap reads_of p.view ∙ reads_more (Lost e ∷ Count p.count ∷ []) v.reads;
}
