-- What a case that nothing refuses has: room in a buffer as long as the longest case.
-- Assumes nothing.
use Prim.Native.Nat.{ℕ, ◌≤◌}
use lib.ListN.{length}
use mathlib.Core.List.{List}
use mathlib.Core.Path.{◌≡◌}
use native.Mathlib.Omega.{arith}
use Rattle.outcome.specs.Outcome.{Accepted}
use Rattle.casefile.specs.Case.{Case, case_status}
use Rattle.casefile.specs.Layout.{longest_case}
use Rattle.casefile.specs.SoundLaws.{counts}
use Rattle.casefile.proofs.CaseLaws.{good, length_encode, longest}
use Rattle.case_writer.specs.Room.{CaseRoom}

pub case_room : (out : List ℕ) (c : Case) → longest_case ≤ length out → case_status c ≡ Accepted → CaseRoom out c
case_room out c h e =
    let g = good c e in
    record {
      accepted = e;
      limits = g.limits;
      rows = omega (arith, g.limits.small, counts g.rows);
      count = g.trial.count;
      room = omega (arith, length_encode c g, longest c e);
    }
