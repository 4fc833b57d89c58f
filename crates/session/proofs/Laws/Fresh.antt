-- What a new session is: fresh values, which are stored as they should be.
use Rattle.std.specs.Prelude.{◌≡◌, false, take}
use Rattle.std.proofs.Common.{arith}
use Rattle.std.proofs.Math.Path.{refl}
use mathlib.Core.List.Memᴰ
use Rattle.lists.specs.Lists.{◌∈◌}
use Rattle.model.specs.Graph.{Scheme}
use Rattle.graph.specs.Packed.{unpack_instance, unpack_history, StoredInstance}
use Rattle.graph.specs.Packed.{FreshScheme, FreshInstance, FreshHistory}
use Rattle.graph.proofs.Laws.Fresh.{nothing-taken, fresh-stored, fresh-instance-stored}
use Rattle.graph.specs.declared.history.History.{History}
use Rattle.graph.specs.declared.instance.PackedInstance.{PackedInstance}
use Rattle.graph.specs.declared.scheme.PackedScheme.{PackedScheme}
use Rattle.session.specs.Sessions.{unpack_session, NewSession}

module _ {h : History} (fresh : FreshHistory h) where
  pub fresh-depth : h.depth ≡ 0
  unfolding unpack_history
  fresh-depth = nothing-taken unpack_instance h.depth h.copies (omega (arith, fresh.room)) fresh.empty

  -- there is no copy of which anything would have to hold
  pub fresh-copies : (s : Scheme) (c : PackedInstance) → c ∈ take h.depth h.copies → StoredInstance s c
  fresh-copies s c i = absurd (Memᴰ.not-nil (rw fresh-depth at i))

-- # A new session
pub new_is : {s : PackedScheme} {d : PackedInstance} {h : History} → FreshScheme s → FreshInstance d → FreshHistory h
    → NewSession (record { opened = false; scheme = s; instance = d; history = h })
unfolding unpack_session
new_is s d h = record {
  shut = refl;
  stored = record {
    scheme = fresh-stored s;
    instance = fresh-instance-stored (fresh-stored s).listed d;
    few = omega (arith, fresh-depth h);
    copies = fresh-copies h _;
  };
}
