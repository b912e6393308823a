-- Forms of models that may be kept.
use Rattle.std.proofs.Common.{◌≡◌, ℕ, List, Option, Ok, ap, ◌∙◌, subst, length, map, ◌+◌}
use Rattle.std.specs.Prelude.{replicate}
use Rattle.std.proofs.lemmas.List.{length-map, length-append, length-replicate}
use Rattle.std.proofs.lemmas.List.Elements.{All-map, All-weaker}
use Rattle.spec_exact.specs.Fraction.{ℚ, 0ℚ}
use Rattle.spec_model.specs.Model.{Model, ExactColumn, height}
use Rattle.spec_model.specs.Kept.{AreEntries, IsKeptColumn, IsUsualModel}
use Rattle.spec_simplex.specs.Form.{Form, IsForm, least_cost, formed, form_of}
use Rattle.spec_simplex.proofs.FormOfModel.{form_is}

-- the form of a usual model with limits for each row is within the usual limits of size, and its entries are in order
formed_kept : (m : Model) (ls : List (Option ℚ × Option ℚ)) → IsUsualModel m → length ls ≡ height m →
    IsForm (formed m ls)
formed_kept m ls h all =
    let lower : length (map (λ (c : ExactColumn). c.lower) m.columns) ≡ length m.columns =
    length-map m.columns (λ (c : ExactColumn). c.lower) in
    let upper : length (map (λ (c : ExactColumn). c.upper) m.columns) ≡ length m.columns =
    length-map m.columns (λ (c : ExactColumn). c.upper) in
    let costs : length (map (λ (c : ExactColumn). least_cost m.sense c.cost) m.columns) ≡ length m.columns =
    length-map m.columns (λ (c : ExactColumn). least_cost m.sense c.cost) in
    let low : length (map (λ (l : Option ℚ × Option ℚ). l.0) ls) ≡ length ls =
    length-map ls (λ (l : Option ℚ × Option ℚ). l.0) in
    let high : length (map (λ (l : Option ℚ × Option ℚ). l.1) ls) ≡ length ls =
    length-map ls (λ (l : Option ℚ × Option ℚ). l.1) in
    let none : length (replicate {A = ℚ} (height m) 0ℚ) ≡ height m = length-replicate {A = ℚ} (height m) 0ℚ in
    record {
      few_rows = h.1.few_rows;
      few_columns = h.1.few_columns;
      all_entries = length-map m.columns (λ (c : ExactColumn). c.entries);
      all_lower =
          length-append (map (λ (c : ExactColumn). c.lower) m.columns) (map (λ (l : Option ℚ × Option ℚ). l.0) ls)
          ∙ ap (λ n. n + length (map (λ (l : Option ℚ × Option ℚ). l.0) ls)) lower
          ∙ ap (λ n. length m.columns + n) (low ∙ all);
      all_upper =
          length-append (map (λ (c : ExactColumn). c.upper) m.columns) (map (λ (l : Option ℚ × Option ℚ). l.1) ls)
          ∙ ap (λ n. n + length (map (λ (l : Option ℚ × Option ℚ). l.1) ls)) upper
          ∙ ap (λ n. length m.columns + n) (high ∙ all);
      all_costs =
          length-append (map (λ (c : ExactColumn). least_cost m.sense c.cost) m.columns)
          (replicate {A = ℚ} (height m) 0ℚ)
          ∙ ap (λ n. n + length (replicate {A = ℚ} (height m) 0ℚ)) costs
          ∙ ap (λ n. length m.columns + n) none;
      columns =
          All-map (AreEntries (height m)) (λ (c : ExactColumn). c.entries) m.columns
          (All-weaker (IsKeptColumn (height m)) (λ (c : ExactColumn). AreEntries (height m) c.entries)
          (λ c k. k.entries) m.columns h.0.columns);
    }

-- the form of a usual model, where there is one, is within the usual limits of size, and its entries are in order
pub form_kept : (limit : Option ℕ) (m : Model) (f : Form) → IsUsualModel m → form_of limit m ≡ Ok f → IsForm f
form_kept limit m f h e =
    let o = form_is limit m f e in subst IsForm o.2 (formed_kept m o.0 h o.1.all)
