-- A text taken apart at each byte 10, which its piece keeps: a piece that ends with byte 10 is a line and that byte, another is what no byte 10
-- ends. What is left after a piece is what stands after the line.
use Rattle.std.specs.Prelude.{ℕ, suc, ◌+◌, ◌-◌, ◌<◌, ◌≤◌, ◌≡◌, ◌≢◌, false, true, cond, eqb, List, [], ◌∷◌, ◌++◌, length, take, drop, get_or, min}
use Rattle.std.specs.Prelude.{Option, None, Some, MatchOption}
use Rattle.std.specs.Cmp.Lexicographic.{pointwise}
use Rattle.std.specs.Fn.{Mut, Called, ComputesKey}
use Rattle.std.specs.List.{IsFirstMatchOrLen, position_or_len}
use Rattle.std.proofs.Common.{arith, Bool, Bor, refl, ap, ap₂, eqb-true, ◌∙◌, sym}
use Rattle.std.proofs.Common.{append_assoc, length-append, length-drop, length-take-le, drop-cons}
use Rattle.std.proofs.Math.Seq.{take-append_seam, drop-append_seam}
use Rattle.std.proofs.lemmas.Bool.{false≢true}
use Rattle.std.proofs.lemmas.List.{take-append-drop, get_or_past, drop-drop}
use Rattle.std.proofs.Math.Nat.{lt_of_not-le}
use Rattle.std.proofs.lemmas.List.Recursion.{is_position_or_len}
use Rattle.std.proofs.lemmas.List.Sums.{position_or_len_is, passes_at_first}
use Rattle.std.proofs.lemmas.List.Sorted.{answers_always}
use Rattle.std.proofs.lemmas.Slice.Eq.{strip_suffix_is}
use Rattle.std.proofs.lemmas.Bool.Decides.{Decides-eqb}
use Rattle.numerals.specs.Scan.{up_to}
use Rattle.numerals.specs.Laws.Scan.{up_to-bound}
use Rattle.verdicts.specs.NextLine.{Unended, LineBytes}

-- where what is left of a text begins
abbrev pub begins : (text rest : List ℕ) → ℕ
begins text rest = length text - length rest

-- the rest of a text, from there on
abbrev pub IsRest : (text rest : List ℕ) → Type 0
IsRest text rest = rest ≡ drop (begins text rest) text

-- # The first byte 10
first-is : (s : List ℕ) → up_to 10 s ≡ position_or_len (λ b. eqb b 10) s
unfolding up_to
first-is = is_position_or_len (up_to 10) (λ b. eqb b 10) refl (λ x xs. ap (cond (eqb x 10) 0) (omega arith))

-- a piece of what is left: the bytes up to the first byte 10, and that byte, if it is there
pub record Piece (rest piece after : List ℕ) : Type 0 where
  pub parts : rest ≡ piece ++ after
  pub some : 0 < length rest
  pub ends : length piece ≡ min (up_to 10 rest + 1) (length rest)

-- what an iterator's step gives, where its closure tells byte 10 from others
pub piece-taken : {F : Type 0} {g : Mut F (Bor ℕ × Unit {0}) Bool} {f f' : F} {rest piece after : List ℕ}
    → (rest ≡ piece ++ after)
    × ((i : ℕ) × (length piece ≡ min (i + 1) (length rest))
    × ((p : ℕ → Bool) → ComputesKey g p f → ComputesKey g p f' × IsFirstMatchOrLen p rest i))
    × (0 < length rest)
    → ((f : F) (b : Bor ℕ × Unit {0}) (r : Bool) (f' : F) → Called g f b r f' → r ≡ eqb b.0.now 10) → Piece rest piece after
piece-taken {g = g} {f = f} {rest = rest} step told =
    record { parts = step.0; some = step.2; ends = step.1.1 ∙ ap (λ n. min (n + 1) (length rest)) (sym found) }
  where
    i : ℕ
    i = step.1.0

    first : IsFirstMatchOrLen (λ b. eqb b 10) rest i
    first = (step.1.2 (λ b. eqb b 10) (answers_always g (λ a r. r ≡ eqb a.0.now 10) f told)).1

    beyond : length rest < i → ⊥
    beyond l = false≢true (sym (first.0 (length rest) 10 (omega arith) l) ∙ ap (λ b. eqb b 10) (get_or_past rest (length rest) 10 (omega arith)))

    within : i ≤ length rest
    within = let l = lt_of_not-le beyond in omega arith

    found : up_to 10 rest ≡ i
    found = first-is rest ∙ position_or_len_is (λ b. eqb b 10) rest i 0 within (λ k l. first.0 k 0 (omega arith) l) (λ l. first.1 l 0)

-- up to a byte 10 there is no more than what stands before one
up_to-before : (s t : List ℕ) → up_to 10 (s ++ (10 ∷ t)) ≤ length s
unfolding up_to
up_to-before [] t = omega arith
up_to-before (x ∷ s) t = go (eqb x 10) (up_to-before s t)
  where
    go : (b : Bool) → up_to 10 (s ++ (10 ∷ t)) ≤ length s → cond b 0 (suc (up_to 10 (s ++ (10 ∷ t)))) ≤ suc (length s)
    go true h = omega arith
    go false h = omega arith

module _ (text rest : List ℕ) {piece after : List ℕ} (here : IsRest text rest) (p : Piece rest piece after) where
  abbrev at : ℕ
  at = begins text rest

  rest-length : length rest ≡ length text - at
  rest-length = ap length here ∙ length-drop at text

  -- a piece is left
  pub piece-inside : at < length text
  piece-inside = omega (arith, rest-length, p.some)

  lengths : length rest ≡ length piece + length after
  lengths = ap length p.parts ∙ length-append piece after

  rest-next : IsRest text after
  rest-next =
      sym (drop-append_seam piece after)
      ∙ ap (drop (length piece)) (sym p.parts ∙ here)
      ∙ drop-drop (length piece) at text
      ∙ ap (λ n. drop n text) (omega (arith, lengths, rest-length, piece-inside))

  -- a piece that does not end with byte 10
  unended-piece : ((front : List ℕ) → piece ≢ front ++ (10 ∷ [])) → Unended text at
  unended-piece none = ap (up_to 10) (sym here) ∙ (let most = lt_of_not-le more in omega (arith, up_to-bound 10 rest)) ∙ ap length here
    where
      u : ℕ
      u = up_to 10 rest

      more : suc u ≤ length rest → ⊥
      more l =
          none front
          (sym (take-append_seam piece after)
          ∙ ap₂ take same (sym p.parts ∙ split)
          ∙ take-append_seam (front ++ (10 ∷ [])) (drop (suc u) rest))
        where
          front : List ℕ
          front = take u rest

          there : get_or rest u 0 ≡ 10
          there =
              eqb-true (get_or rest u 0) 10
              (ap (λ n. eqb (get_or rest n 0) 10) (first-is rest) ∙ passes_at_first (λ b. eqb b 10) rest 0 (omega (arith, first-is rest)))

          split : rest ≡ (front ++ (10 ∷ [])) ++ drop (suc u) rest
          split =
              sym (take-append-drop u rest)
              ∙ ap (λ t. front ++ t) (drop-cons rest u 0 l ∙ ap (λ b. b ∷ drop (suc u) rest) there)
              ∙ sym (append_assoc front (10 ∷ []) (drop (suc u) rest))

          same : length piece ≡ length (front ++ (10 ∷ []))
          same = omega (arith, p.ends, length-append front (10 ∷ []), length-take-le u rest (omega arith))

  -- a piece that does
  module _ (s : List ℕ) (ended : piece ≡ s ++ (10 ∷ [])) where
    split : rest ≡ s ++ (10 ∷ after)
    split = p.parts ∙ ap (λ t. t ++ after) ended ∙ append_assoc s (10 ∷ []) after

    count : length piece ≡ length s + 1
    count = ap length ended ∙ length-append s (10 ∷ [])

    size : up_to 10 rest ≡ length s
    size =
        let most : up_to 10 rest ≤ length s = rw split (up_to-before s after) in
        omega (arith, lengths, p.ends, count)

    piece-bytes : LineBytes text at s
    piece-bytes =
        record {
          bytes = rw (← here) (sym (take-append_seam s (10 ∷ after)) ∙ ap₂ take (sym size) (sym split));
          ended = omega (arith, lengths, count, rest-length, piece-inside);
        }

    begins-next : begins text after ≡ at + (length s + 1)
    begins-next = omega (arith, lengths, count, rest-length, piece-inside)

-- # The next piece
-- a piece without byte 10 at its end, as `strip_suffix` gives it
abbrev pub Strips : List ℕ → Option (Bor (List ℕ)) → Type 0
Strips piece r = MatchOption r (pointwise eqb (drop (length piece - 1) piece) (10 ∷ []) ≡ false)
    (λ s. (pointwise eqb (drop (length piece - 1) piece) (10 ∷ []) ≡ true)
    × (s.now ≡ take (length piece - 1) piece)
    × (length s.now + 1 ≡ length piece))

module _ (piece : List ℕ) (r : Option (Bor (List ℕ))) (h : Strips piece r) where
  stripped : MatchOption r ((front : List ℕ) → piece ≢ front ++ (10 ∷ [])) (λ s. piece ≡ s.now ++ (10 ∷ []))
  stripped = strip_suffix_is Decides-eqb piece (10 ∷ []) r h

  strips-none : r ≡ None → (front : List ℕ) → piece ≢ front ++ (10 ∷ [])
  strips-none e = rw e at stripped

  strips-some : {s : Bor (List ℕ)} → r ≡ Some s → piece ≡ s.now ++ (10 ∷ [])
  strips-some e = rw e at stripped

-- a piece of a text, without byte 10 at its end, told as the line that begins there
pub record NextPiece (text rest after : List ℕ) (r : Option (Bor (List ℕ))) : Type 0 where
  pub left : begins text rest < length text
  pub unended : r ≡ None → Unended text (begins text rest)
  pub line : {s : Bor (List ℕ)} → r ≡ Some s → LineBytes text (begins text rest) s.now
  pub next : {s : Bor (List ℕ)} → r ≡ Some s → begins text after ≡ begins text rest + (length s.now + 1)
  pub here : IsRest text after

pub next-piece : (text piece : List ℕ) (r : Option (Bor (List ℕ))) {rest after : List ℕ} → IsRest text rest → Piece rest piece after → Strips piece r
    → NextPiece text rest after r
next-piece text piece r {rest} here p h =
    record {
      left = piece-inside text rest here p;
      unended = λ e. unended-piece text rest here p (strips-none piece r h e);
      line = λ {s} e. piece-bytes text rest here p s.now (strips-some piece r h e);
      next = λ {s} e. begins-next text rest here p s.now (strips-some piece r h e);
      here = rest-next text rest here p;
    }
