-- Demand 1 holds, as specs/Demand1 says it: a session that calls leave is stored and sound, and the record's step refuses exactly by its causes.
use Rattle.std.proofs.Common.{◌∙◌, sym}
use Rattle.model.proofs.Laws.Calls.{refused-changes-nothing, refusal-numbered}
use Rattle.model.proofs.Laws.Refusals.{refused-exactly}
use Rattle.session.specs.Sessions.{unpack_session}
use Rattle.demands.specs.Demand1.{Demand1Order, Demand1Promise}
use Rattle.demands.proofs.Laws.Chains.{reached-stored, reached-sound}

pub demand-1-order : Demand1Order
demand-1-order now h = reached-stored h

pub demand-1 : Demand1Promise
demand-1 call before answer buffer after h stepped =
    let r = unpack_session before in
    record {
      exactly = λ x. rw stepped.answers (refused-exactly r call x (reached-sound h));
      declined = λ x e. record {
        numbered = refusal-numbered x;
        session = stepped.unchanged x e;
        buffers = stepped.lent ∙ (refused-changes-nothing r call (sym stepped.answers ∙ e)).buffer;
      };
    }
