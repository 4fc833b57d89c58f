-- The numbers of kinds.
use Rattle.std.specs.Prelude.{ℕ}
use Rattle.graph.specs.declared.declarations.Kind.{Kind}
use Rattle.graph.specs.declared.declarations.Kind.TheVariants.{First, Second}

-- the number of a kind in a drawing file, and its bit where it is stored
abbrev pub kind_number : Kind → ℕ
kind_number First = 0
kind_number Second = 1
