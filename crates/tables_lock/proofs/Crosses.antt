-- Seats may go to other threads, and the lock may be shared, where the disk may go to another thread.
use denote.RattleType.{RattleType}
use Rattle.sv_outside.specs.declared.disk.Disk.{Ghosts as DiskGhosts}
use Rattle.tables.specs.declared.work.Work.{Ghosts as WorkGhosts}
use denote.Param.Send.{IsSend, IsSync, sendable}
use denote.Param.SendFields.{declared_sync}
use Rattle.atomic_table.specs.contracts.owned.Table as TableOf
use Rattle.tables_lock.specs.contracts.guard.Guard as GuardOf
use Rattle.std.specs.contracts.alloc.Global as GlobalOf
use Rattle.tables_lock.specs.contracts.guard.GuardTableRuleOptionTablesViewSnapshotOpening.TheImpl as RuleOf
use Rattle.std.specs.contracts.impls.GlobalAllocator.TheImpl as HeapOf
use denote.Builtin.{u64}
use Rattle.std.proofs.Crossing.{frees, crosses}
use Rattle.std.specs.contracts.option.Option as OptionOf
use Rattle.std.specs.contracts.snapshot.Snapshot as SnapshotOf
use Rattle.atomic_table.specs.contracts.shared.Seat as RawSeat
use Rattle.atomic_table.proofs.shared.Seat.TheSendSync as RawSeatSend
use Rattle.atomic_table.proofs.shared.Shared.TheSendSync as RawShared
use Rattle.atomic_table.proofs.send_lease.SendLease.TheSendSync as Lease
use Rattle.std.proofs.alloc.Global.TheSendSync as Heap
use Rattle.tables.specs.contracts.tables.Tables as TablesOf
use Rattle.tables.specs.contracts.opening.Opening as OpeningOf
use Rattle.tables_lock.specs.contracts.guard.View as ViewOf
use Rattle.tables_lock.specs.contracts.lock.Seat as SeatOf
use Rattle.tables_lock.specs.contracts.lock.Lock as LockOf

snapshot_send : (Y : RattleType) → IsSend (SnapshotOf.the_row Y)
snapshot_send Y = record { owned = λ d vs. ((λ vss. (tt, ((λ uss. (tt, tt)), tt))), tt); leaving = λ k f vs. tt }

opening_send : (D W : RattleType) → IsSend (OpeningOf.the_row D W)
opening_send D W = search (sendable, snapshot_send) depth 20

tables_send : (D W B V : RattleType) → IsSend D → IsSend B → IsSend (TablesOf.the_row D W B V)
tables_send D W B V d s = let o = opening_send D W in search (sendable, crosses) depth 40

option_send : (D W B V : RattleType) → IsSend D → IsSend B → IsSend (OptionOf.the_row (TablesOf.the_row D W B V))
option_send D W B V d s = let t = tables_send D W B V d s in search sendable depth 20

raw_send : (D W B V : RattleType) → IsSend D → IsSend B → IsSend (RawSeat.the_row (OptionOf.the_row (TablesOf.the_row D W B V)) (ViewOf.the_row D W))
raw_send D W B V d s = RawSeatSend.the_send (OptionOf.the_row (TablesOf.the_row D W B V)) (ViewOf.the_row D W) (option_send D W B V d s)

pub seat_send : (D W B V : RattleType) (gd : DiskGhosts D.Denot) → IsSend D → IsSend B → IsSend (SeatOf.the_row D W B V gd)
seat_send D W B V gd d s = let r = raw_send D W B V d s in search sendable depth 20

pub lock_sync : (D W B V : RattleType) (gd : DiskGhosts D.Denot) (gw : WorkGhosts W.Denot B.Denot V.Denot) → IsSend D → IsSend B → IsSync (LockOf.the_row D W B V gd gw)
lock_sync D W B V gd gw d s =
    let t = option_send D W B V d s in
    let S0 = OptionOf.the_row (TablesOf.the_row D W B V) in
    let V0 = ViewOf.the_row D W in
    let K = SnapshotOf.the_row (OpeningOf.the_row D W) in
    let P = GuardOf.the_row D W B V in
    declared_sync (LockOf.the_type D W B V gd gw) (
      declared_sync (TableOf.the_type S0 V0 K P GlobalOf.the_row (RuleOf.ghosts D W B V gd RuleOf.no_dict gw RuleOf.no_dict RuleOf.no_dict RuleOf.no_dict RuleOf.no_dict) HeapOf.ghosts)
          (RawShared.the_sync S0 V0 K P (RuleOf.ghosts D W B V gd RuleOf.no_dict gw RuleOf.no_dict RuleOf.no_dict RuleOf.no_dict RuleOf.no_dict) t, (search sendable, (search sendable, (Lease.the_sync u64 GlobalOf.the_row HeapOf.ghosts Heap.the_send frees, (Lease.the_sync S0 GlobalOf.the_row HeapOf.ghosts Heap.the_send frees, (Heap.the_sync, tt)))))),
      tt,
    )
