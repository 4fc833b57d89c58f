-- How long the lines are: a number of 64 bits has at most 20 digits.
-- By induction on a line's numbers.
use Rattle.std.specs.Prelude.{ℕ, suc, ◌+◌, ◌*◌, ◌^◌, ◌<◌, ◌≤◌, ◌≡◌, List, [], ◌∷◌, ◌++◌, length, take, drop}
use Rattle.std.proofs.Common.{arith, ap, sym, length-append, length-take-le}
use Rattle.lists.specs.Buffers.{Writes}
use Rattle.lists.specs.Decimal.{decimal, most_digits}
use Rattle.lists.proofs.Laws.Decimal.{word-length}
use Rattle.lists.specs.Text.{bytes}
use Rattle.model.specs.Files.{commas}
use Rattle.model.specs.Refusals.{table_row}
use Rattle.model.specs.declared.Counts.{Counts}
use Rattle.model.specs.declared.Refusal.{Refusal}
use Rattle.model.specs.declared.Row.{Row}
use Rattle.printing.specs.Written.{line_of}
use Rattle.trials.specs.Trials.{most_of_done, most_of_trial, refused_text, counts_text}

-- numbers of 64 bits
abbrev Words : List ℕ → Type 0
Words [] = Unit {0}
Words (n ∷ ns) = (n < 2 ^ 64) × Words ns

commas-short : (n : ℕ) (ns : List ℕ) → Words (n ∷ ns) → length (commas (n ∷ ns)) + 1 ≤ (most_digits + 1) * suc (length ns)
commas-short n [] w = omega (arith, word-length n w.0)
commas-short n (m ∷ ns) w =
    omega (arith, word-length n w.0, commas-short m ns w.1, length-append (decimal n) (44 ∷ commas (m ∷ ns)))

line-short : (key ns : List ℕ) → 1 ≤ length ns → Words ns → length (line_of key ns) ≤ length key + 1 + (most_digits + 1) * length ns
unfolding line_of
line-short key [] h w = absurd (omega arith)
line-short key (n ∷ ns) h w =
    let front = key ++ (61 ∷ commas (n ∷ ns)) in
    let whole : length (line_of key (n ∷ ns)) ≡ length front + 1 = length-append front (10 ∷ []) in
    omega (arith, commas-short n ns w, length-append key (61 ∷ commas (n ∷ ns)))

-- # The line refused=
pub refused-fits : (n m : ℕ) (out : List ℕ) → n < 2 ^ 64 → m < 2 ^ 64 → most_of_trial ≤ length out
    → length (line_of (bytes "refused") (n ∷ m ∷ [])) ≤ length out
refused-fits n m out hn hm room = omega (arith, line-short (bytes "refused") (n ∷ m ∷ []) (omega arith) (hn, (hm, tt)))

pub refused-written : (x : Refusal) {r : Row} → r ≡ table_row x → {out : List ℕ} {taken : ℕ} {after : List ℕ}
    → Writes (line_of (bytes "refused") (r.number ∷ r.returned ∷ [])) out taken after → Writes (refused_text x) out taken after
unfolding refused_text line_of
refused-written x e w = rw (← e) w

-- # The line done=
done-short : (a b c d e : ℕ) → a < 2 ^ 64 → b < 2 ^ 64 → c < 2 ^ 64 → d < 2 ^ 64 → e < 2 ^ 64
    → length (line_of (bytes "done") (a ∷ b ∷ c ∷ d ∷ e ∷ [])) ≤ most_of_done
done-short a b c d e la lb lc ld le =
    omega (arith, line-short (bytes "done") (a ∷ b ∷ c ∷ d ∷ e ∷ []) (omega arith) (la, (lb, (lc, (ld, (le, tt))))))

pub done-fits : (a b c d e : ℕ) (out : List ℕ) → a < 2 ^ 64 → b < 2 ^ 64 → c < 2 ^ 64 → d < 2 ^ 64 → e < 2 ^ 64 → most_of_trial ≤ length out
    → length (line_of (bytes "done") (a ∷ b ∷ c ∷ d ∷ e ∷ [])) ≤ length out
done-fits a b c d e out la lb lc ld le room = omega (arith, done-short a b c d e la lb lc ld le)

abbrev numbers_of : Counts → List ℕ
numbers_of n = n.matchings ∷ n.added.nodes ∷ n.added.edges ∷ n.removed.nodes ∷ n.removed.edges ∷ []

module _ (n : Counts) {out : List ℕ} {taken : ℕ} {after : List ℕ} (w : Writes (line_of (bytes "done") (numbers_of n)) out taken after) where
  pub done-written : Writes (counts_text n) out taken after
  unfolding counts_text line_of
  done-written = w

  pub done-few : n.matchings < 2 ^ 64 → n.added.nodes < 2 ^ 64 → n.added.edges < 2 ^ 64 → n.removed.nodes < 2 ^ 64 → n.removed.edges < 2 ^ 64
      → taken ≤ most_of_done
  done-few la lb lc ld le =
      omega (arith, w.count, done-short n.matchings n.added.nodes n.added.edges n.removed.nodes n.removed.edges la lb lc ld le)

-- # What is printed
-- a text that is written is the front of its buffer
module _ {text before : List ℕ} {taken : ℕ} {after : List ℕ} (w : Writes text before taken after) where
  pub text-inside : taken ≤ length after
  text-inside = omega (arith, w.count, ap length w.buffer, length-append text (drop (length text) before))

  pub text-part : taken ≡ length (take taken after)
  text-part = sym (length-take-le taken after text-inside)
