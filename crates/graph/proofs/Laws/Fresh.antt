-- Fresh values are stored as they should be: what is empty is in order, within every limit, and conforms.
use Rattle.std.specs.Prelude.{ℕ, zero, suc, ◌<◌, ◌≡◌, true, List, [], ◌∷◌, map, length, take, refl}
use Rattle.std.proofs.Common.{arith, ap}
use Rattle.model.specs.Graph.{Scheme, Instance, conforms_by, scheme_listed, instance_listed}
use Rattle.model.specs.Sound.{Sound}
use Rattle.graph.specs.Packed.{unpack_node, unpack_triple, unpack_instance, StoredScheme, StoredInstance, FreshScheme, FreshInstance}
use Rattle.graph.specs.declared.instance.PackedInstance.{PackedInstance}
use Rattle.graph.specs.declared.scheme.PackedScheme.{PackedScheme}

pub fresh-stored : {s : PackedScheme} → FreshScheme s → StoredScheme s
unfolding scheme_listed
fresh-stored h = record { classes = h.snug.0; names = h.snug.1; few = omega (arith, h.none); listed = rw h.empty refl }

-- an array that has room, of which nothing is taken, is taken to no length
pub nothing-taken : {A B : Type 0} (f : A → B) (n : ℕ) (xs : List A) → 0 < length xs → map f (take n xs) ≡ [] → n ≡ 0
nothing-taken f zero xs room h = refl
nothing-taken f (suc n) [] room h = absurd (omega arith)
nothing-taken f (suc n) (x ∷ xs) room h = let e : suc (length (map f (take n xs))) ≡ 0 = ap length h in absurd (omega arith)

module _ {s : Scheme} {d : PackedInstance} where
  fresh-sound : scheme_listed s ≡ true → FreshInstance d → Sound s (unpack_instance d)
  unfolding instance_listed conforms_by
  fresh-sound listed h = rw h.empty (record { scheme = listed; listed = refl; conforming = refl })

  pub fresh-instance-stored : scheme_listed s ≡ true → FreshInstance d → StoredInstance s d
  unfolding unpack_instance
  fresh-instance-stored listed h =
      record {
        few_nodes =
            omega (arith, nothing-taken unpack_node d.order d.nodes (omega (arith, h.nodes_room)) (ap (λ (g : Instance). g.nodes) h.empty));
        few_edges =
            omega (arith, nothing-taken unpack_triple d.size d.edges (omega (arith, h.edges_room)) (ap (λ (g : Instance). g.edges) h.empty));
        sound = fresh-sound listed h;
      }
