-- What stored keys mean, on keys of the drawing J and at the largest numbers.
use Rattle.std.specs.Prelude.{◌+◌, ◌*◌, ◌-◌, ◌^◌, ◌≡◌, refl, [], ◌∷◌, None, Some}
use Rattle.graph.specs.Packed.{unpack_triple, unpack_node, unpack_pattern_nodes, unpack_declared}

pub record Examples : Type 0 where
  -- edge=3,0,6 and edge=65535,63,65535
  pub edge : unpack_triple (3 * 2 ^ 22 + 6) ≡ record { source = 3; name = 0; target = 6 }
  pub last-edge : unpack_triple (2 ^ 38 - 1) ≡ record { source = 65535; name = 63; target = 65535 }
  -- node=6,1,600 and node=65535,63,65535
  pub node : unpack_node (6 * 2 ^ 38 + 1 * 2 ^ 32 + 600) ≡ record { number = 6; class = 1; value = 600 }
  pub last-node : unpack_node (65535 * 2 ^ 38 + 63 * 2 ^ 32 + 65535) ≡ record { number = 65535; class = 63; value = 65535 }
  -- pnode=0,0,0 and pnode=1,1,0: no value, and the value 0
  pub pattern-nodes :
      unpack_pattern_nodes 0 (0 ∷ (1 * 2 ^ 33 + 2 ^ 32) ∷ [])
      ≡ record { number = 0; class = 0; value = None } ∷ record { number = 1; class = 1; value = Some 0 } ∷ []
  -- class=0,0 class=1,1, and class=63,1 alone
  pub classes : unpack_declared record { declared = 3; second = 2 } ≡ record { number = 0; kind = 0 } ∷ record { number = 1; kind = 1 } ∷ []
  pub last-class : unpack_declared record { declared = 2 ^ 63; second = 2 ^ 63 } ≡ record { number = 63; kind = 1 } ∷ []

pub examples : Examples
unfolding unpack_declared
examples =
    record { edge = refl; last-edge = refl; node = refl; last-node = refl; pattern-nodes = refl; classes = refl; last-class = refl }
