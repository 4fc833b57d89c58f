-- Rule texts: how long an accepted one can be, and that a longer text is decided by its first part.
-- From the room that each key has in the format.
use Rattle.std.specs.Prelude.{ℕ, ◌≤◌, ◌≡◌, List, length, take}
use Rattle.std.proofs.Common.{arith, ap}
use Rattle.std.proofs.Math.Path.{refl}
use mathlib.Core.List.Memᴰ
use Rattle.model.specs.Graph.{Scheme}
use Rattle.model.specs.Operations.{Rule}
use Rattle.model.specs.Refusals.{accepted, ◌>>=◌}
use Rattle.model.specs.Files.{read}
use Rattle.model.specs.Files.RuleText.{op=, rule_format, rule_in, read_rule}
use Rattle.model.specs.Meaning.{line_count, enough_of_rule}
use Rattle.model.proofs.Laws.Outcomes.{then-accepted}
use Rattle.model.proofs.Laws.RulePatterns.{regular}
use Rattle.model.proofs.Laws.Bounds.{most_lines, most_bytes, enough, accepted-size, first_part}

module _ (s : Scheme) where
  most-lines : most_lines (rule_format s) ≡ 30
  unfolding rule_format
  most-lines = refl

  most_bytes_lem : most_bytes (rule_format s) ≡ 367
  unfolding rule_format
  most_bytes_lem = refl

  enough-text : enough (rule_format s) ≡ 465
  unfolding rule_format
  enough-text = refl

  -- an accepted rule text has at most 30 lines and 367 bytes; since a rule has the lines of one code only, it doesn't come near
  pub rule-size : (t : List ℕ) (r : Rule) → read_rule s t ≡ accepted r → (line_count t ≤ 30) × (length t ≤ 367)
  unfolding read_rule
  rule-size t r h =
      let q = (then-accepted (read (rule_format s) t) (λ ls. accepted (rule_in ls)) r).0 h in
      omega (arith, most-lines, most_bytes_lem, accepted-size (rule_format s) (regular s) t q.0 q.1)

-- a longer text is read as its first part is, and refused with the same line
pub rule-first-part : (s : Scheme) (n : ℕ) → enough_of_rule ≤ n → (t : List ℕ) → read_rule s t ≡ read_rule s (take n t)
unfolding read_rule rule_format
rule-first-part s n h t =
    ap (λ o. o >>= λ ls. accepted (rule_in ls)) (first_part (rule_format s) (regular s) (Memᴰ.head {x = op=} refl) n (omega (arith, enough-text s)) t)
