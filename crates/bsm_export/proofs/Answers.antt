-- A writer's answer and a walk as numbers. Assumes nothing.
use Rattle.std.specs.Prelude.{Result, Ok, Err}
use mathlib.Core.Path.{◌≡◌, sym, ap, ◌∙◌}
use mathlib.Core.List.{List}
use Prim.Native.Nat.{ℕ}
use native.Mathlib.Omega.{arith}
use Rattle.bsm_token.specs.Token.{Walk, tokens, refused as bad, walk}
use Rattle.bsm_token.specs.Meaning.{body_read}
use Rattle.bsm_token.specs.declared.refusal.Refusal.{Refusal}
use Rattle.bsm_bytes.specs.Write.{Draft, answer_meant, Written}
use Rattle.bsm_export.specs.Written.{flat_written, flat_walk, Exported}
use Rattle.bsm_export.specs.declared.answer.BsmWritten.{BsmWritten}
use Rattle.bsm_export.proofs.Refusals.{zeros}

-- the numbers of a call that has written or counted n, or was refused with f
abbrev pub numbers : ℕ → Refusal → BsmWritten
numbers n f = record { written = n; number = f.number; place = f.place; need = f.need }

module _ {r : BsmWritten} where
  pub wrote_flat : {a : Result ℕ Refusal} (n : ℕ) {f : Refusal} → a ≡ Ok n → f ≡ zeros → r ≡ numbers n f → r ≡ flat_written (answer_meant a)
  unfolding flat_written
  wrote_flat n e z q = q ∙ ap (numbers n) z ∙ ap (λ x. flat_written (answer_meant x)) (sym e)

  pub refused_flat : {a : Result ℕ Refusal} (f : Refusal) → a ≡ Err f → r ≡ numbers 0 f → r ≡ flat_written (answer_meant a)
  unfolding flat_written
  refused_flat f e q = q ∙ ap (λ x. flat_written (answer_meant x)) (sym e)

  -- every writer
  pub exported : {p : Draft} {d d' : List ℕ} {a : Result ℕ Refusal} → Written p d d' a → r ≡ flat_written (answer_meant a) → Exported p d d' r
  exported w e = record { answer = e ∙ ap flat_written w.answer; left = w.left }

  pub walk_counted : (s : List ℕ) {y : Result ℕ Refusal} (n : ℕ) {f : Refusal} → y ≡ body_read (walk s) → y ≡ Ok n → f ≡ zeros → r ≡ numbers n f → r ≡ flat_walk (walk s)
  unfolding flat_walk flat_written
  walk_counted s n b e z q = q ∙ ap (numbers n) z ∙ go (walk s) (sym b ∙ e)
    where
      go : (w : Walk) → body_read w ≡ Ok n → numbers n zeros ≡ flat_walk w
      go (tokens k) h = ap (λ m. numbers m zeros) (cc)
      go (bad x) h = let z : ◌≡◌ {A = ℕ} 0 1 = cc in absurd (omega arith)

  pub walk_refused : (s : List ℕ) {y : Result ℕ Refusal} (f : Refusal) → y ≡ body_read (walk s) → y ≡ Err f → r ≡ numbers 0 f → r ≡ flat_walk (walk s)
  unfolding flat_walk flat_written
  walk_refused s f b e q = q ∙ go (walk s) (sym b ∙ e)
    where
      go : (w : Walk) → body_read w ≡ Err f → numbers 0 f ≡ flat_walk w
      go (tokens k) h = let z : ◌≡◌ {A = ℕ} 0 1 = cc in absurd (omega arith)
      go (bad x) h = ap (numbers 0) (cc)
