-- "When the engine declines": the number of each refusal and what is returned with it. Where each is given is said in Files (1 to 5),
-- Operations (9 to 12) and Record (6 to 8, 13, 14).
use Rattle.std.specs.Prelude.{ℕ, List, [], ◌∷◌}
use Rattle.model.specs.declared.Row.{Row}
use Rattle.model.specs.declared.Refusal.{Refusal}
use Rattle.model.specs.declared.Refusal.TheVariants.{Malformed, TooMany, Undeclared, Nonconforming, BadAction, NotOpen, AlreadyOpen}
use Rattle.model.specs.declared.Refusal.TheVariants.{NoCopy, NodesFull, NumbersFull, EdgesFull, FunctionalClash, BufferShort, LengthDiffers}

abbrev numbered : ℕ → ℕ → Row
numbered n x = record { number = n; returned = x }

abbrev pub table_row : Refusal → Row
table_row (Malformed line) = numbered 1 line
table_row (TooMany line) = numbered 2 line
table_row (Undeclared line) = numbered 3 line
table_row (Nonconforming line) = numbered 4 line
table_row (BadAction line) = numbered 5 line
table_row NotOpen = numbered 6 0
table_row AlreadyOpen = numbered 7 0
table_row NoCopy = numbered 8 0
table_row NodesFull = numbered 9 0
table_row NumbersFull = numbered 10 0
table_row EdgesFull = numbered 11 0
table_row (FunctionalClash node) = numbered 12 node
table_row (BufferShort needed) = numbered 13 needed
table_row (LengthDiffers length) = numbered 14 length

-- what is accepted, or a refusal
pub data Outcome (A : Type 0) : Type 0 where
  accepted : A → Outcome A
  refused : Refusal → Outcome A

-- what follows an accepted thing; a refusal stays
infixl 20 ◌>>=◌
abbrev pub ◌>>=◌ : {A B : Type 0} → Outcome A → (A → Outcome B) → Outcome B
◌>>=◌ (accepted a) f = f a
◌>>=◌ (refused r) f = refused r

-- the step for each member in turn, until one is refused
abbrev pub in_turn : {A S : Type 0} → List A → (A → S → Outcome S) → S → Outcome S
in_turn [] f s = accepted s
in_turn (x ∷ xs) f s = f x s >>= λ t. in_turn xs f t
