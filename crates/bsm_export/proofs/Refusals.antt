-- What a refusal stands for, short or not, by its numbers. Assumes nothing.
use mathlib.Core.Path.{◌≡◌, refl, ap, ◌∙◌}
use mathlib.Core.Bool.{Bool, true, false}
use Prim.Native.Nat.{ℕ}
use borrow.Author.Tests.{eqb-true}
use lib.Dec.{eqb}
use Rattle.bsm_field.specs.Number.{if_else}
use Rattle.bsm_token.specs.declared.refusal.Refusal.{Refusal}
use Rattle.bsm_item.specs.Item.{Answer, short, refusal}
use Rattle.bsm_item.specs.Meaning.{refusal_meant}

-- no refusal
abbrev pub zeros : Refusal
zeros = record { number = 0; place = 0; need = 0 }

-- f takes each refusal to what g makes of its number, place and need
module _ {A : Type 0} (f : Answer → A) (g : (number place need : ℕ) → A) (short-is : (p n : ℕ) → g 1 p n ≡ f (short p n)) (refusal_is : (e p n : ℕ) → g e p n ≡ f (refusal e p n)) where
  pub by_numbers : (r : Refusal) → g r.number r.place r.need ≡ f (refusal_meant r)
  by_numbers r = go (eqb r.number 1) refl
    where
      go : (b : Bool) → eqb r.number 1 ≡ b → g r.number r.place r.need ≡ f (if_else b (short r.place r.need) (refusal r.number r.place r.need))
      go true t = ap (λ e. g e r.place r.need) (eqb-true r.number 1 t) ∙ short-is r.place r.need
      go false t = refusal_is r.number r.place r.need
