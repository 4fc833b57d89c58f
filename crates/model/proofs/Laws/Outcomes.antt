-- Steps in turn: what every step keeps holds at the end, and a refusal is that of the first step that is refused.
-- By induction on the members; of one step and what follows it, by cases of its outcome.
use Rattle.std.specs.Prelude.{ℕ, ◌≡◌, refl, ◌↔◌, ◌⊎◌, Bool, true, false, cond, List, [], ◌∷◌, ◌++◌}
use Rattle.std.proofs.Common.{arith, ap, ◌∙◌, sym, inl, inr, ⊎_elim, true≢false}
use mathlib.Core.List.Memᴰ
use Rattle.model.specs.declared.Refusal.{Refusal}
use Rattle.model.specs.Refusals.{Outcome, accepted, refused, ◌>>=◌, in_turn}
use Rattle.lists.specs.Lists.{◌∈◌}

-- # One outcome
pub refused-not-accepted : {A : Type 0} {r : Refusal} {a : A} → refused r ≡ accepted a → ⊥
refused-not-accepted h = let z : ◌≡◌ {A = ℕ} 0 1 = cc in omega arith

pub same-refusal : {A : Type 0} {x y : Refusal} → ◌≡◌ {A = Outcome A} (refused x) (refused y) → x ≡ y
same-refusal h = cc

-- refused where a test holds, and else as `o` is
pub unless-accepted : {A : Type 0} (t : Bool) (y : Refusal) (o : Outcome A) (a : A) → cond t (refused y) o ≡ accepted a → (t ≡ false) × (o ≡ accepted a)
unless-accepted true y o a h = absurd (refused-not-accepted h)
unless-accepted false y o a h = (refl, h)

pub unless-refused : {A : Type 0} (t : Bool) (y : Refusal) (o : Outcome A) (x : Refusal)
    → (cond t (refused y) o ≡ refused x) ↔ (((t ≡ true) × (y ≡ x)) ⊎ ((t ≡ false) × (o ≡ refused x)))
unless-refused true y o x = ((λ h. inl (refl, same-refusal h)), ⊎_elim (λ h. ap refused h.1) (λ h. absurd (true≢false h.0)))
unless-refused false y o x = ((λ h. inr (refl, h)), ⊎_elim (λ h. absurd (true≢false (sym h.0))) (λ h. h.1))

-- accepted where a test holds, and else as `o` is
pub otherwise-accepted : {A : Type 0} (t : Bool) (o : Outcome A) (a b : A) → cond t (accepted a) o ≡ accepted b → (a ≡ b) ⊎ (o ≡ accepted b)
otherwise-accepted true o a b h = inl (cc)
otherwise-accepted false o a b h = inr h

pub otherwise-refused : {A : Type 0} (t : Bool) (o : Outcome A) (a : A) (x : Refusal) → (cond t (accepted a) o ≡ refused x) ↔ ((t ≡ false) × (o ≡ refused x))
otherwise-refused true o a x = ((λ h. absurd (refused-not-accepted (sym h))), λ h. absurd (true≢false h.0))
otherwise-refused false o a x = ((λ h. (refl, h)), λ h. h.1)

module _ {A B : Type 0} where
  -- an outcome and what follows it: accepted if both are; refused if the first is, or if it is accepted and what follows is refused
  pub then-accepted : (o : Outcome A) (f : A → Outcome B) (b : B)
      → ((o >>= f) ≡ accepted b) ↔ ((a : A) × (o ≡ accepted a) × (f a ≡ accepted b))
  then-accepted (accepted a) f b = ((λ h. (a, refl, h)), λ h. let e : a ≡ h.0 = cc in ap f e ∙ h.2)
  then-accepted (refused r) f b = ((λ h. absurd (refused-not-accepted h)), λ h. cc)

  pub then-refused : (o : Outcome A) (f : A → Outcome B) (r : Refusal)
      → ((o >>= f) ≡ refused r) ↔ ((o ≡ refused r) ⊎ ((a : A) × (o ≡ accepted a) × (f a ≡ refused r)))
  then-refused (accepted a) f r = ((λ h. inr (a, refl, h)), ⊎_elim (λ h. cc) (λ h. let e : a ≡ h.0 = cc in ap f e ∙ h.2))
  then-refused (refused q) f r = ((λ h. inl (cc)), ⊎_elim (λ h. cc) (λ h. cc))

  -- where what follows accepts in any case
  pub made-refused : (o : Outcome A) (g : A → B) (r : Refusal) → ((o >>= λ a. accepted (g a)) ≡ refused r) ↔ (o ≡ refused r)
  made-refused o g r = (
    (λ h. ⊎_elim (λ e. e) (λ q. absurd (refused-not-accepted (sym q.2))) ((then-refused o (λ a. accepted (g a)) r).0 h)),
    λ e. (then-refused o (λ a. accepted (g a)) r).1 (inl e),
  )

-- # Steps in turn
module _ {A S : Type 0} (f : A → S → Outcome S) where
  -- what each step keeps, an accepted turn of steps keeps
  pub in_turn-keeps : (P : S → Type 0) (xs : List A) (s t : S)
      → ((x : A) → x ∈ xs → (now next : S) → P now → f x now ≡ accepted next → P next) → P s → in_turn xs f s ≡ accepted t → P t
  in_turn-keeps P [] s t step h e = let q : s ≡ t = cc in rw q at h
  in_turn-keeps P (x ∷ xs) s t step h e =
      let r = (then-accepted (f x s) (λ u. in_turn xs f u) t).0 e in
      in_turn-keeps P xs r.0 t (λ y i. step y (Memᴰ.tail i)) (step x (Memᴰ.head refl) s r.0 h r.1) r.2

  -- the steps of `front` are accepted, and the next one is refused
  pub record Stops (xs : List A) (s : S) (r : Refusal) : Type 0 where
    pub front : List A
    pub at : A
    pub back : List A
    pub reached : S
    pub split : xs ≡ front ++ at ∷ back
    pub goes : in_turn front f s ≡ accepted reached
    pub stops : f at reached ≡ refused r

  stops_first : (x : A) (xs : List A) (s : S) (r : Refusal) → f x s ≡ refused r → Stops (x ∷ xs) s r
  stops_first x xs s r h = record { front = []; at = x; back = xs; reached = s; split = refl; goes = refl; stops = h }

  stops-later : (x : A) (xs : List A) (s u : S) (r : Refusal) → f x s ≡ accepted u → Stops xs u r → Stops (x ∷ xs) s r
  stops-later x xs s u r h q =
      record {
        front = x ∷ q.front;
        at = q.at;
        back = q.back;
        reached = q.reached;
        split = ap (λ (l : List A). x ∷ l) q.split;
        goes = rw h q.goes;
        stops = q.stops;
      }

  from-stop : (front : List A) (at : A) (back : List A) (s reached : S) (r : Refusal) → in_turn front f s ≡ accepted reached → f at reached ≡ refused r
      → in_turn (front ++ at ∷ back) f s ≡ refused r
  from-stop [] at back s reached r h k = let e : s ≡ reached = cc in rw (e, k)
  from-stop (x ∷ front) at back s reached r h k =
      let q = (then-accepted (f x s) (λ u. in_turn front f u) reached).0 h in
      rw q.1 (from-stop front at back q.0 reached r q.2 k)

  -- a turn of steps is refused exactly if some step is, after accepted ones, and with its refusal
  pub in_turn-refused : (xs : List A) (s : S) (r : Refusal) → (in_turn xs f s ≡ refused r) ↔ Stops xs s r
  in_turn-refused xs s r = (
    to xs s,
    λ q. rw q.split (from-stop q.front q.at q.back s q.reached r q.goes q.stops),
  )
    where
      to : (xs : List A) (s : S) → in_turn xs f s ≡ refused r → Stops xs s r
      to [] s h = absurd (refused-not-accepted (sym h))
      to (x ∷ xs) s h =
          ⊎_elim
          (stops_first x xs s r)
          (λ q. stops-later x xs s q.0 r q.1 (to xs q.0 q.2))
          ((then-refused (f x s) (λ u. in_turn xs f u) r).0 h)
