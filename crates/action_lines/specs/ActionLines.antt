-- A line of an action: what it must meet, told from the pattern above it.
use Rattle.std.specs.Prelude.{ℕ, true, ◌&&◌, eqb}
use Rattle.model.specs.Graph.{Triple, Scheme, Pattern, declares, is_object, is_functional, is_multivalued, has, joins, stands, of_class, permits}
use Rattle.model.specs.Operations.{Arm}
use Rattle.model.specs.Files.{Checks, checks}
use Rattle.graph.specs.Packed.{group_node, group_class, group_a, group_b}
use Rattle.pattern_lines.specs.PatternLines.{knows}

unfoldable pub make_checks : Scheme → ℕ → Checks
make_checks s c = checks true (declares s.classes c) true (is_object s c)

-- K is the class of the make line
unfoldable pub arm_checks : Scheme → Pattern → (K : ℕ) → Arm → Checks
arm_checks s p K a =
    checks true (declares s.names a.name && stands p a.node) true (is_functional s a.name && joins s (eqb K) a.name (of_class p a.node))

unfoldable pub put_checks : Scheme → Pattern → Triple → Checks
unfolding knows
put_checks s p e = checks true (knows s p e) true (permits s p e)

unfoldable pub drop_checks : Pattern → ℕ → Checks
drop_checks p q = checks true (stands p q) true true

unfoldable pub cut_checks : Scheme → Pattern → Triple → Checks
unfolding knows
cut_checks s p e = checks true (knows s p e) true (has p.edges e)

unfoldable pub group_checks : Scheme → Pattern → (row : ℕ) → Checks
group_checks s p r =
    let q = group_node r in
    let K = group_class r in
    let a = group_a r in
    let b = group_b r in
    checks true (stands p q && declares s.classes K && declares s.names a && declares s.names b) true
    (is_object s K && is_multivalued s a && is_multivalued s b && joins s (eqb K) b (of_class p q))
