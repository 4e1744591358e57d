use denote.Builtin.{One}
use denote.Exit.{no}
use denote.Hole.{as_row}
use denote.Param.{param}
use denote.Param.Send.{IsSync, sendable, param_sync, arg_sync, shr_sync}
use denote.Param.SendFields.{declared_sync, as_row_sync}
use denote.RattleType.{RattleType}
use denote.Ref.{NamedLft}
use denote.Struct.Field.{row_field, shr_ref_field}
use denote.Struct.Tuple.{TupleAt, type_at}
use mir.Syntax.{named}
use Rattle.std.proofs.alloc.Global.TheSendSync as Heap
use Rattle.std.specs.contracts.alloc.Global as GlobalOf
use Rattle.tables_lock.proofs.Crosses.{seat_send, lock_sync}
use Rattle.work_crew.proofs.run.Lts.{arg-0-4, of-2, of-10, name-15}
use Rattle.work_crew.proofs.run.Goals as goal

pub map_vec-done-requires-send-J : goal.map_vec-done-requires-send-J
map_vec-done-requires-send-J g c κs within = search (sendable, seat_send, c.type_bounds) depth 40

-- what a closure holds of what may be shared
held : (ℓ : NamedLft) (R : RattleType) (one : One R.mir) → IsSync R → IsSync (as_row (row_field (shr_ref_field ℓ R one).row))
held ℓ R one s = as_row_sync (row_field (shr_ref_field ℓ R one).row) (shr_sync ℓ.mir ℓ.lft R s)

pub map_vec-done-requires-sync-F : goal.map_vec-done-requires-sync-F
map_vec-done-requires-sync-F g c κs within =
    let R = arg-0-4 g.row.R g.row.D g.row.W g.row.C g.row.G g.row.W-Basis g.row.W-View g.R.laws g.D.laws g.W.laws g.C.laws g.G.laws g.W.Basis.laws g.W.View.laws g.R.Threads g.R.Threads-dict g.R.Wait g.R.Wait-dict g.D.Disk g.D.Disk-dict g.W.Work g.W.Work-dict g.C.Clock g.C.Clock-dict g.G.Gate g.G.Gate-dict g.D.Destruct-dict g.W.Basis.Destruct-dict g.W.View.Destruct-dict κs in
    let N = name-15 g.row.R g.row.D g.row.W g.row.C g.row.G g.row.W-Basis g.row.W-View g.R.laws g.D.laws g.W.laws g.C.laws g.G.laws g.W.Basis.laws g.W.View.laws g.R.Threads g.R.Threads-dict g.R.Wait g.R.Wait-dict g.D.Disk g.D.Disk-dict g.W.Work g.W.Work-dict g.C.Clock g.C.Clock-dict g.G.Gate g.G.Gate-dict g.D.Destruct-dict g.W.Basis.Destruct-dict g.W.View.Destruct-dict in
    let Ts = of-10 g.row.R g.row.D g.row.W g.row.C g.row.G g.row.W-Basis g.row.W-View g.R.laws g.D.laws g.W.laws g.C.laws g.G.laws g.W.Basis.laws g.W.View.laws g.R.Threads g.R.Threads-dict g.R.Wait g.R.Wait-dict g.D.Disk g.D.Disk-dict g.W.Work g.W.Work-dict g.C.Clock g.C.Clock-dict g.G.Gate g.G.Gate-dict g.D.Destruct-dict g.W.Basis.Destruct-dict g.W.View.Destruct-dict (record { mir = named 7; lft = κs.1.1.1.1.1.1.1.0 }) (record { mir = named 8; lft = κs.1.1.1.1.1.1.1.1.0 }) (record { mir = named 9; lft = κs.1.1.1.1.1.1.1.1.1.0 }) (record { mir = named 10; lft = κs.1.1.1.1.1.1.1.1.1.1.0 }) (record { mir = named 11; lft = κs.1.1.1.1.1.1.1.1.1.1.1.0 }) (record { mir = named 12; lft = κs.1.1.1.1.1.1.1.1.1.1.1.1.0 }) in
    let L = of-2 g.row.R g.row.D g.row.W g.row.C g.row.G g.row.W-Basis g.row.W-View g.R.laws g.D.laws g.W.laws g.C.laws g.G.laws g.W.Basis.laws g.W.View.laws g.R.Threads g.R.Threads-dict g.R.Wait g.R.Wait-dict g.D.Disk g.D.Disk-dict g.W.Work g.W.Work-dict g.C.Clock g.C.Clock-dict g.G.Gate g.G.Gate-dict g.D.Destruct-dict g.W.Basis.Destruct-dict g.W.View.Destruct-dict in
    param_sync 4 R (arg_sync _ no (TupleAt N Ts) (declared_sync (type_at N Ts) (
      held (record { mir = named 7; lft = κs.1.1.1.1.1.1.1.0 }) (param 0 g.row.R) tt (search (sendable, c.type_bounds)),
      (
        held (record { mir = named 8; lft = κs.1.1.1.1.1.1.1.1.0 }) GlobalOf.the_row tt Heap.the_sync,
        (
          held (record { mir = named 9; lft = κs.1.1.1.1.1.1.1.1.1.0 }) L tt (search (sendable, lock_sync, c.type_bounds) depth 20),
          (
            held (record { mir = named 10; lft = κs.1.1.1.1.1.1.1.1.1.1.0 }) (param 2 g.row.W) tt (search (sendable, c.type_bounds)),
            (
              held (record { mir = named 11; lft = κs.1.1.1.1.1.1.1.1.1.1.1.0 }) (param 3 g.row.C) tt (search (sendable, c.type_bounds)),
              (
                held (record { mir = named 12; lft = κs.1.1.1.1.1.1.1.1.1.1.1.1.0 }) (param 4 g.row.G) tt (search (sendable, c.type_bounds)),
                tt,
              ),
            ),
          ),
        ),
      ),
    )))
