-- A key's numbers, taken from it in mixed radix, are those of what it stands for: a triple, a node, a declared number. By arithmetic on their places.
use Rattle.std.specs.Prelude.{ℕ, ◌/◌, ◌%◌, ◌^◌, ◌<◌, ◌≡◌, [], ◌∷◌, eqb}
use Rattle.std.proofs.Common.{arith, ap, ap₂, ◌∙◌}
use Rattle.lists.specs.Lists.{◌∈◌, keep, count_from}
use Rattle.lists.specs.Radix.{unrank}
use Rattle.lists.proofs.Laws.Lists.{in_map}
use Rattle.model.specs.Limits
use Rattle.model.specs.Graph.{Declared, row}
use Rattle.model.specs.Operations.{node_row}
use Rattle.model.specs.Files.DrawingFile.{declared_row}
use Rattle.graph.specs.Packed.{triple_rooms, node_rooms, declared_rooms, bit, unpack_triple, unpack_node, unpack_declared, pack_declared}
use Rattle.graph.specs.declared.declarations.Declarations.{Declarations}

pub triple-fields : (k : ℕ) → unrank triple_rooms k ≡ row (unpack_triple k)
triple-fields k =
    let name : k % 2 ^ 22 / 2 ^ 16 ≡ k / 2 ^ 16 % 2 ^ 6 = omega arith in
    let target : k % 2 ^ 22 % 2 ^ 16 / 1 ≡ k % 2 ^ 16 = omega arith in
    ap₂ (λ n t. k / 2 ^ 22 ∷ n ∷ t ∷ []) name target

pub node-fields : (k : ℕ) → unrank node_rooms k ≡ node_row (unpack_node k)
node-fields k =
    let class : k % 2 ^ 38 / 2 ^ 32 ≡ k / 2 ^ 32 % 2 ^ 6 = omega arith in
    let value : k % 2 ^ 38 % 2 ^ 32 / 1 ≡ k % 2 ^ 32 = omega arith in
    ap₂ (λ c v. k / 2 ^ 38 ∷ c ∷ v ∷ []) class value

pub declared-fields : (k : ℕ) → unrank declared_rooms k ≡ k / 2 ∷ k % 2 ∷ []
declared-fields k = let kind : k % 2 / 1 ≡ k % 2 = omega arith in ap (λ n. k / 2 ∷ n ∷ []) kind

-- a declared number's kind is a binary digit
declared-kind : (d : Declarations) (c : Declared) → c ∈ unpack_declared d → c.kind < 2
unfolding unpack_declared
declared-kind d c i =
    let numbers = keep (λ n. eqb (bit d.declared n) 1) (count_from 0 Limits.classes) in
    let r = (in_map {B = Declared} (λ n. record { number = n; kind = bit d.second n }) numbers).0 i in
    rw r.2 (omega arith)

pub declared-packed : (d : Declarations) (c : Declared) → c ∈ unpack_declared d → unrank declared_rooms (pack_declared c) ≡ declared_row c
declared-packed d c i =
    let number : pack_declared c / 2 ≡ c.number = omega (arith, declared-kind d c i) in
    let kind : pack_declared c % 2 ≡ c.kind = omega (arith, declared-kind d c i) in
    declared-fields (pack_declared c) ∙ ap₂ (λ n k. n ∷ k ∷ []) number kind
