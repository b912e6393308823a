-- The names in the reader's state are sound: valid, distinct, and few enough.
--
-- `no_rows`: a state without names is sound.
-- `with_name`: names stay sound with another valid name of the model.
-- `with_objective`: names stay sound with a first objective whose name is valid and differs from those of all rows.
-- `push_row`: names stay sound with one more row that has room and a valid name, other than all before.
use Rattle.std.proofs.Common.{◌≡◌, ◌≢◌, ◌+◌, ◌<◌, ◌≤◌, Option, Some, None, List, [], ◌∷◌, ◌++◌, length, All}
use Rattle.std.proofs.Common.{IfSome, IsTrue, refl, sym, subst, arith, true, append_assoc, length-append}
use Rattle.std.specs.List.{AllPairs}
use Rattle.std.specs.Option.{option_to_list}
use Rattle.std.proofs.lemmas.List.Elements.{All-nil, All-push, All-weaker}
use Rattle.std.proofs.lemmas.List.Kept.{AllPairs-cons}
use Rattle.std.proofs.lemmas.List.Quantifiers.{all_pairs_push}
use Rattle.spec_model.specs.declared.parts.SizeLimits.{SizeLimits}
use Rattle.spec_model.specs.Model.{Name}
use Rattle.spec_model.specs.Kept.{is_row_name, is_model_name}

-- the names of the model, the objective and the rows are valid; those of the objective and the rows are distinct, and
-- the rows are no more than the limit
pub record SoundRows (limits : SizeLimits) (name : Name) (objective : Option Name) (rows : List Name) : Type 0 where
  pub few : length rows ≤ limits.rows
  pub model_name : IsTrue (is_model_name name)
  pub objective_name : IfSome objective (λ n. IsTrue (is_row_name n))
  pub each_name : All (λ n. IsTrue (is_row_name n)) rows
  pub distinct : AllPairs (λ x y. x ≢ y) (option_to_list objective ++ rows)

pub no_rows : {limits : SizeLimits} → SoundRows limits [] None []
unfolding is_model_name
no_rows =
    record {
      few = omega arith;
      model_name = refl;
      objective_name = tt;
      each_name = All-nil (λ n. IsTrue (is_row_name n));
      distinct = λ i j d l k. absurd (omega arith);
    }

pub with_name : {limits : SizeLimits} (name : Name) (objective : Option Name) (rows : List Name) (new : Name) →
    is_model_name new ≡ true →
    SoundRows limits name objective rows → SoundRows limits new objective rows
with_name name objective rows new t s =
    record {
      few = s.few;
      model_name = t;
      objective_name = s.objective_name;
      each_name = s.each_name;
      distinct = s.distinct;
    }

pub with_objective : {limits : SizeLimits} (name : Name) (rows : List Name) (new : Name) → is_row_name new ≡ true →
    All (λ n. n ≢ new) rows →
    SoundRows limits name None rows → SoundRows limits name (Some new) rows
with_objective name rows new t f s =
    record {
      few = s.few;
      model_name = s.model_name;
      objective_name = t;
      each_name = s.each_name;
      distinct =
          AllPairs-cons (λ x y. x ≢ y) new rows
          (All-weaker (λ n. n ≢ new) (λ n. new ≢ n) (λ n g e. g (sym e)) rows f) s.distinct;
    }

pub push_row : {limits : SizeLimits} (name : Name) (objective : Option Name) (rows : List Name) (new : Name) →
    is_row_name new ≡ true →
    length rows < limits.rows → All (λ n. n ≢ new) (option_to_list objective ++ rows) →
    SoundRows limits name objective rows →
    SoundRows limits name objective (rows ++ new ∷ [])
push_row name objective rows new t few f s =
    let longer : length (rows ++ new ∷ []) ≡ length rows + 1 = length-append rows (new ∷ []) in
    record {
      few = omega arith;
      model_name = s.model_name;
      objective_name = s.objective_name;
      each_name = All-push (λ n. IsTrue (is_row_name n)) rows new s.each_name t;
      distinct =
          subst (AllPairs (λ x y. x ≢ y)) (append_assoc (option_to_list objective) rows (new ∷ []))
          (all_pairs_push (λ x y. x ≢ y) (option_to_list objective ++ rows) new s.distinct f);
    }
