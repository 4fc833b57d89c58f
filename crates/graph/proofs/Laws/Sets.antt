-- Declared numbers as sets of bits: which are declared, of which kind, one more above all, how many, and their rows in turn. The declared numbers
-- below k + 1 are those below k, and then k if its bit is set: the laws follow from those of a number's binary digits, by induction on k.
use Rattle.std.specs.Prelude.{ℕ, zero, suc, ◌+◌, ◌-◌, ◌*◌, ◌/◌, ◌%◌, ◌^◌, ◌<◌, ◌≤◌, ◌≡◌, Bool, true, false, cond, ◌&&◌, List, [], ◌∷◌, ◌++◌, map, length, take, set, eqb, ltb}
use Rattle.std.proofs.Common.{zero-le, sym, ap, ap₂, ◌∙◌, append-nil, mod-eq_of_lt, mod-lt, lt_of_lt_of_le, zero-add, add_comm, pow-suc, add-one, one-add, length-append, length-set, pow_pos, pow_mono, shl_exact, ltb-true, eqb-true, eq-eqb}
use Rattle.std.proofs.Math.Path.{refl}
use Rattle.std.proofs.Math.Bool.{and-true}
use mathlib.Core.List.Memᴰ
use Rattle.std.proofs.lemmas.List.{map-append}
use Rattle.std.proofs.Math.Nat.{mod-one, div-eq_of_lt}
use Rattle.std.proofs.Math.Decide.{le_ind}
use native.Mathlib.Omega.{arith}
use Rattle.std.proofs.Math.Arith.{digits_lt}
use Rattle.std.proofs.Math.Pow.{high, low, field, mod-mod-pow}
use Rattle.std.proofs.lemmas.Nat.{mod-pow-add, ones_cat}
use Rattle.std.specs.Int.Bits.{bit_or, or_shifted_r}
use Rattle.std.specs.Int.Count.{ones}
use Rattle.lists.specs.Lists.{any, all, keep, each, count_from}
use Rattle.lists.proofs.Laws.Lists.{both, any-member, all-members, in_map, in-keep, in_count, each_append, same_truth}
use Rattle.lists.proofs.Laws.Maps.{each_same, each-if}
use Rattle.lists.proofs.Laws.OneMore.{count-last, stored_last}
use Rattle.model.specs.Limits
use Rattle.model.specs.Graph.{Declared, declares, of_kind}
use Rattle.keys.specs.Keys.{Front}
use Rattle.graph.specs.Packed.{bit, unpack_declared, pack_declared, declared_rows, Snug, FreshDeclarations, DeclaredWith}
use Rattle.graph.specs.Kinds.{kind_number}
use Rattle.graph.specs.declared.declarations.Kind.{Kind}
use Rattle.graph.specs.declared.declarations.Kind.TheVariants.{First, Second}
use Rattle.graph.specs.declared.declarations.Declarations.{Declarations}

-- # Binary digits
bit_past : (x n : ℕ) → x < 2 ^ n → bit x n ≡ 0
bit_past x n h = ap (λ (q : ℕ). q % 2) (div-eq_of_lt h)

-- those below n are the digits of what is left when the number is divided by 2 ^ n
bit-mod : (x n m : ℕ) → m < n → bit (x % 2 ^ n) m ≡ bit x m
bit-mod x n m h =
    let e : (n - suc m) + (1 + m) ≡ n = omega arith in
    sym (field (x % 2 ^ n) 1 m) ∙ ap (λ (r : ℕ). r / 2 ^ m) (rw e at (mod-mod-pow x (n - suc m) (1 + m))) ∙ field x 1 m

-- a digit put at n, above all others
module _ (a n x : ℕ) (digit : a < 2) (below : x < 2 ^ n) where
  put-digit : n < Limits.classes → bit_or x (a * 2 ^ n % 2 ^ 64) ≡ a * 2 ^ n + x
  put-digit h = ap (bit_or x) (shl_exact 1 n 64 digit (omega arith)) ∙ or_shifted_r a n x below

  put-lt : (m : ℕ) → n < m → a * 2 ^ n + x < 2 ^ m
  put-lt m h = let l : a * 2 ^ n + x < 2 * 2 ^ n = digits_lt digit below in omega (arith, pow-suc 2 n, pow_mono h)

  put-bit : bit (a * 2 ^ n + x) n ≡ a
  put-bit = ap (λ (q : ℕ). q % 2) (high a n below) ∙ mod-eq_of_lt digit

  put-bit-below : (m : ℕ) → m < n → bit (a * 2 ^ n + x) m ≡ bit x m
  put-bit-below m h = sym (bit-mod (a * 2 ^ n + x) n m h) ∙ ap (λ (y : ℕ). bit y m) (low a n below)

-- # Which numbers are declared
abbrev is_declared : Declarations → ℕ → Bool
is_declared d n = eqb (bit d.declared n) 1

abbrev declared_at : Declarations → ℕ → Declared
declared_at d n = record { number = n; kind = bit d.second n }

-- a test that only n can pass, on the declared numbers
at-number : (d : Declarations) (n : ℕ) (t : Declared → Bool) → ((c : Declared) → t c ≡ true → c.number ≡ n) → n < Limits.classes
    → any t (unpack_declared d) ≡ (is_declared d n && t (declared_at d n))
unfolding unpack_declared
at-number d n t only h =
    same_truth (any t (unpack_declared d)) (is_declared d n && t (declared_at d n)) (
      (λ e.
          let r = (any-member t (unpack_declared d)).0 e in
          let q = (in_map (declared_at d) (keep (is_declared d) (count_from 0 Limits.classes))).0 r.1 in
          let s = (in-keep (is_declared d) (count_from 0 Limits.classes)).0 q.1 in
          let number : q.0 ≡ n = only (declared_at d q.0) (rw q.2 at r.2) in
          (both (is_declared d n) (t (declared_at d n))).1 (rw number at s.1, rw (q.2, number) at r.2)),
      λ e.
          let r = (both (is_declared d n) (t (declared_at d n))).0 e in
          (any-member t (unpack_declared d)).1 (
            declared_at d n,
            (in_map (declared_at d) (keep (is_declared d) (count_from 0 Limits.classes))).1 (
              n,
              (in-keep (is_declared d) (count_from 0 Limits.classes)).1 ((in_count 0 Limits.classes n).1 (zero-le, h), r.0),
              refl,
            ),
            r.1,
          ),
    )

pub declares-bit : (d : Declarations) (n : ℕ) → n < Limits.classes → eqb (bit d.declared n) 1 ≡ declares (unpack_declared d) n
declares-bit d n h =
    sym (at-number d n (λ c. eqb c.number n) (λ c e. eqb-true c.number n e) h ∙ rw (eq-eqb n n refl) (and-true (is_declared d n)))

module _ (d : Declarations) (kind n : ℕ) (in_limit : n < Limits.classes) where
  of_kind-bits : of_kind kind (unpack_declared d) n ≡ (is_declared d n && eqb (bit d.second n) kind)
  of_kind-bits =
      at-number d n (λ c. eqb c.number n && eqb c.kind kind)
      (λ c e. eqb-true c.number n ((both (eqb c.number n) (eqb c.kind kind)).0 e).0) in_limit
      ∙ rw (eq-eqb n n refl)

  pub of_kind-declared : declares (unpack_declared d) n ≡ true → eqb (bit d.second n) kind ≡ of_kind kind (unpack_declared d) n
  of_kind-declared e = sym (of_kind-bits ∙ rw (declares-bit d n in_limit ∙ e))

  pub of_kind-undeclared : declares (unpack_declared d) n ≡ false → false ≡ of_kind kind (unpack_declared d) n
  of_kind-undeclared e = sym (of_kind-bits ∙ rw (declares-bit d n in_limit ∙ e))

-- # Declared numbers below a number
abbrev entry : Declarations → ℕ → List Declared
entry d n = cond (is_declared d n) (declared_at d n ∷ []) []

unfoldable pub declared_below : ℕ → Declarations → List Declared
declared_below k d = each (count_from 0 k) (entry d)

declared_below-limit : (d : Declarations) → unpack_declared d ≡ declared_below Limits.classes d
unfolding unpack_declared declared_below
declared_below-limit d = sym (each-if (is_declared d) (declared_at d) (count_from 0 Limits.classes))

declared_below-suc : (k : ℕ) (d : Declarations) → declared_below (suc k) d ≡ declared_below k d ++ entry d k
unfolding declared_below
declared_below-suc k d =
    ap (λ (l : List ℕ). each l (entry d)) (count-last 0 k) ∙ each_append (count_from 0 k) ((0 + k) ∷ []) (entry d)
    ∙ ap (λ (l : List Declared). each (count_from 0 k) (entry d) ++ l) (append-nil (entry d (0 + k)) ∙ ap (entry d) (zero-add k))

declared_below-same : (k : ℕ) (d e : Declarations)
    → ((m : ℕ) → m < k → (bit d.declared m ≡ bit e.declared m) × (bit d.second m ≡ bit e.second m)) → declared_below k d ≡ declared_below k e
unfolding declared_below
declared_below-same k d e h =
    each_same (count_from 0 k) (entry d) (entry e) (λ m i. let r = h m (rw zero-add at ((in_count 0 k m).0 i).1) in rw (r.0, r.1))

-- no number is declared from a bound of the set on
declared_below-stops : (d : Declarations) (n k : ℕ) → d.declared < 2 ^ n → n ≤ k → declared_below k d ≡ declared_below n d
declared_below-stops d n k h l =
    le_ind
    (λ m. declared_below m d ≡ declared_below n d)
    refl
    (λ m i e. declared_below-suc m d ∙ rw (bit_past d.declared m (lt_of_lt_of_le h (pow_mono i))) (append-nil (declared_below m d)) ∙ e)
    k
    l

pub kind-below : (kind : Kind) → kind_number kind < Limits.kinds
kind-below First = omega arith
kind-below Second = omega arith

-- # One number more
module _ (d : Declarations) (n kind : ℕ) (in_limit : n < Limits.classes) (is_kind : kind < Limits.kinds) (snug : Snug d)
    (last : all (λ c. ltb c.number n) (unpack_declared d) ≡ true) where
  declared-lt : d.declared < 2 ^ n
  declared-lt = (snug.snug n last).0

  second_lt : d.second < 2 ^ n
  second_lt = (snug.snug n last).1

  abbrev more : Declarations
  more = record { declared = 1 * 2 ^ n + d.declared; second = kind * 2 ^ n + d.second }

  more_lt : (m : ℕ) → n < m → (more.declared < 2 ^ m) × (more.second < 2 ^ m)
  more_lt m h = (put-lt 1 n d.declared (omega arith) declared-lt m h, put-lt kind n d.second is_kind second_lt m h)

  more-below : declared_below n more ≡ unpack_declared d
  more-below =
      declared_below-same n more d
      (λ m h. (put-bit-below 1 n d.declared (omega arith) declared-lt m h, put-bit-below kind n d.second is_kind second_lt m h))
      ∙ sym (declared_below-stops d n Limits.classes declared-lt (omega arith))
      ∙ sym (declared_below-limit d)

  more-at : entry more n ≡ record { number = n; kind = kind } ∷ []
  more-at = rw (put-bit 1 n d.declared (omega arith) declared-lt, put-bit kind n d.second is_kind second_lt)

  unpack-more : unpack_declared more ≡ unpack_declared d ++ (record { number = n; kind = kind } ∷ [])
  unpack-more =
      declared_below-limit more
      ∙ declared_below-stops more (suc n) Limits.classes (more_lt (suc n) (omega arith)).0 in_limit
      ∙ declared_below-suc n more
      ∙ ap₂ ◌++◌ more-below more-at

  number-below : (m : ℕ) → all (λ c. ltb c.number m) (unpack_declared more) ≡ true → n < m
  number-below m h =
      ltb-true n m
      ((all-members (λ c. ltb c.number m) (unpack_declared d ++ (record { number = n; kind = kind } ∷ []))).0 (rw unpack-more at h)
      record { number = n; kind = kind }
      (Memᴰ.append_right (unpack_declared d) (Memᴰ.head refl)))

  -- as words of 64 bits give it
  pub declared-with :
      DeclaredWith d n kind record { declared = bit_or d.declared (1 * 2 ^ n % 2 ^ 64); second = bit_or d.second (kind * 2 ^ n % 2 ^ 64) }
  declared-with =
      rw (put-digit 1 n d.declared (omega arith) declared-lt in_limit, put-digit kind n d.second is_kind second_lt in_limit)
      (record { with = unpack-more; snug = record { snug = λ m h. more_lt m (number-below m h) } })

-- # None, and how many
pub none-declared : FreshDeclarations record { declared = 0; second = 0 }
unfolding unpack_declared
none-declared = record { empty = refl; snug = record { snug = λ n h. (pow_pos n, pow_pos n) } }

-- what is listed by a digit, and whether the digit is set
length-if : {A : Type 0} (x : A) (b : ℕ) → b < 2 → length (cond (eqb b 1) (x ∷ []) []) ≡ ones b
unfolding ones
length-if x zero h = refl
length-if x (suc zero) h = refl
length-if x (suc (suc b)) h = absurd (omega arith)

count-below : (k : ℕ) (d : Declarations) → length (declared_below k d) ≡ ones (d.declared % 2 ^ k)
unfolding declared_below ones
count-below zero d = ap ones (sym (mod-one d.declared))
count-below (suc k) d =
    ap length (declared_below-suc k d) ∙ length-append (declared_below k d) (entry d k)
    ∙ ap₂ ◌+◌ (count-below k d) (length-if (declared_at d k) (bit d.declared k) (mod-lt (d.declared / 2 ^ k) (omega arith)))
    ∙ add_comm (ones (d.declared % 2 ^ k)) (ones (bit d.declared k))
    ∙ sym (ones_cat k (bit d.declared k) (d.declared % 2 ^ k) (mod-lt d.declared (pow_pos k)))
    ∙ ap ones (sym (mod-pow-add d.declared 1 k))
    ∙ ap (λ (j : ℕ). ones (d.declared % 2 ^ j)) (one-add k)

pub count-declared : (d : Declarations) → d.declared < 2 ^ 64 → ones d.declared ≡ length (unpack_declared d)
count-declared d h = sym (ap length (declared_below-limit d) ∙ count-below Limits.classes d ∙ ap ones (mod-eq_of_lt h))

-- # Rows, one declared number after another
abbrev rows_below : ℕ → Declarations → List ℕ
rows_below k d = map pack_declared (declared_below k d)

rows_next : (k : ℕ) (d : Declarations) → rows_below (k + 1) d ≡ rows_below k d ++ map pack_declared (entry d k)
rows_next k d = rw (add-one, declared_below-suc) (map-append pack_declared (declared_below k d) (entry d k))

-- the rows of the declared numbers below `next` are listed
pub record Listed (d : Declarations) (before : List ℕ) (count next : ℕ) (rows : List ℕ) : Type 0 where
  pub reached : next ≤ Limits.classes
  pub few : count ≤ next
  pub as_long : length rows ≡ length before
  pub listed : take count rows ≡ rows_below next d

module _ (d : Declarations) (before : List ℕ) where
  pub listed-none : Listed d before 0 0 before
  unfolding declared_below
  listed-none = record { reached = zero-le; few = zero-le; as_long = refl; listed = refl }

  pub listed-all : (count next : ℕ) (rows : List ℕ) → Limits.classes ≤ length before → Limits.classes ≤ next → Listed d before count next rows
      → Front rows count (declared_rows d)
  unfolding declared_rows
  listed-all count next rows room past h =
      let all : next ≡ Limits.classes = omega arith in
      record { few = omega arith; front = h.listed ∙ rw (all, declared_below-limit d) }

  module _ (n count : ℕ) (rows : List ℕ) (room : Limits.classes ≤ length before) (in_limit : n < Limits.classes) (h : Listed d before count n rows) where
    pub listed_more : declares (unpack_declared d) n ≡ true → Listed d before (count + 1) (n + 1) (set rows count (n * 2 + bit d.second n))
    listed_more e =
        record {
          reached = omega arith;
          few = omega arith;
          as_long = simp length-set h.as_long;
          listed = stored_last rows count (n * 2 + bit d.second n) (omega arith) ∙ rw (h.listed, rows_next n d, declares-bit d n in_limit ∙ e);
        }

    pub listed_same : declares (unpack_declared d) n ≡ false → Listed d before count (n + 1) rows
    listed_same e =
        record {
          reached = omega arith;
          few = omega arith;
          as_long = h.as_long;
          listed = h.listed ∙ sym (rows_next n d ∙ rw (declares-bit d n in_limit ∙ e) (append-nil (rows_below n d)));
        }
