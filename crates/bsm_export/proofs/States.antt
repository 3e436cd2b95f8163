-- Steps and runs as numbers. Assumes nothing.
use Rattle.std.specs.Prelude.{Some, None, Ok, Err}
use mathlib.Core.Path.{◌≡◌, refl, sym, ap, ◌∙◌}
use mathlib.Core.List.{List}
use Prim.Native.Nat.{ℕ}
use Rattle.bsm_token.specs.declared.refusal.Refusal.{Refusal}
use Rattle.bsm_item.specs.Reading.{Outcome}
use Rattle.bsm_item.specs.Meaning.{item_meant, part_meant, address_meant, state_meant, StepAnswer, step_meant, ending_meant, run_meant, Step}
use Rattle.bsm_item.specs.declared.item.Item.{Item as Found}
use Rattle.bsm_item.specs.declared.state.State.{State as Place}
use Rattle.bsm_item.specs.declared.state.Run.{Run}
use Rattle.bsm_export.proofs.ItemNumbers.{found_flat, end_flat, refused_flat}
use Rattle.bsm_export.specs.Items.{no_item, flat_found, step_with, outcome_with, flat_step, stopped_by, flat_outcome}
use Rattle.bsm_export.specs.declared.item.BsmItem.{BsmItem}
use Rattle.bsm_export.specs.declared.state.BsmStep.{BsmStep}
use Rattle.bsm_export.specs.declared.state.BsmOutcome.{BsmOutcome}
use Rattle.bsm_export.proofs.Refusals.{zeros, by_numbers}

-- ---- one step

-- x is the step from the state st to the state n, and r its answer
module _ (s : List ℕ) (st : Place) (x : Step) {o : StepAnswer} (e : step_meant s st x ≡ o) {j : BsmItem} {q : BsmStep} where
  pub step_item : (i : Found) (n : Place) → x ≡ Ok (Some (i, n)) → ((t : List ℕ) → j ≡ flat_found (item_meant t i) (part_meant i) (address_meant i)) → q ≡ step_with j (state_meant n) → q ≡ flat_step o
  unfolding flat_step
  step_item i n f h g = g ∙ ap (λ y. step_with y (state_meant n)) (found_flat i refl h s) ∙ ap (λ y. flat_step (step_meant s st y)) (sym f) ∙ ap flat_step e

  pub step_end : {f : Refusal} → x ≡ Ok None → f ≡ zeros → j ≡ no_item 0 f.number f.place f.need → q ≡ step_with j (state_meant st) → q ≡ flat_step o
  unfolding flat_step
  step_end f z h g = g ∙ ap (λ y. step_with y (state_meant st)) (end_flat refl z h s) ∙ ap (λ y. flat_step (step_meant s st y)) (sym f) ∙ ap flat_step e

  pub step_refused : (f : Refusal) → x ≡ Err f → j ≡ no_item 3 f.number f.place f.need → q ≡ step_with j (state_meant st) → q ≡ flat_step o
  unfolding flat_step
  step_refused f g h z = z ∙ ap (λ y. step_with y (state_meant st)) (refused_flat f refl h s) ∙ ap (λ y. flat_step (step_meant s st y)) (sym g) ∙ ap flat_step e

-- ---- a run

module _ (x : Run) {o : Outcome} (e : run_meant x ≡ o) {q : BsmOutcome} where
  pub run_end : {f : Refusal} → x.ending ≡ Ok tt → f ≡ zeros → q ≡ outcome_with (state_meant x.state) f.number f.place f.need
      → q ≡ flat_outcome o
  unfolding flat_outcome stopped_by
  run_end f z h =
      h ∙ ap (λ y. outcome_with (state_meant x.state) y.number y.place y.need) z ∙ ap (λ y. stopped_by (state_meant x.state) (ending_meant y)) (sym f) ∙ ap flat_outcome e

  pub run_refused : (f : Refusal) → x.ending ≡ Err f → q ≡ outcome_with (state_meant x.state) f.number f.place f.need → q ≡ flat_outcome o
  unfolding flat_outcome stopped_by
  run_refused f g h =
      let st = state_meant x.state in
      h ∙ by_numbers (stopped_by st) (outcome_with st) (λ p n. refl) (λ e p n. refl) f ∙ ap (λ y. stopped_by st (ending_meant y)) (sym g) ∙ ap flat_outcome e

pub run_flat : (x : Run) {o : Outcome} → run_meant x ≡ o → {q : BsmOutcome} → q ≡ flat_outcome (run_meant x) → q ≡ flat_outcome o
run_flat x e h = h ∙ ap flat_outcome e
