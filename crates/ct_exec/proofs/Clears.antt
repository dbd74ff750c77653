-- Which commands clear nexuses, and what they leave of the control.
use Rattle.std.proofs.Common.{◌≡◌, ◌+◌, ◌*◌, ℕ, zero, suc, true, false, List, replicate, slice_index_or, Result, Ok, Err}
use Rattle.std.proofs.Common.{refl, ap}
use Rattle.ct_word.specs.Nexuses.{no_nexuses, contains}
use Rattle.ct_word.specs.declared.names.Nexus.{Nexus}
use Rattle.ct_cdb.specs.declared.choices.ReserveOut.{ReserveOut}
use Rattle.ct_cdb.specs.declared.op.Op.{Op}
use Rattle.ct_cdb.specs.declared.op.Op.TheVariants as op
use Rattle.ct_cdb.specs.declared.op.Cdb.{Cdb}
use Rattle.ct_cdb.specs.declared.op.CdbFault.{CdbFault}
use Rattle.ct_cdb.specs.declared.op.SerIdx.TheVariants.{Res}
use Rattle.ct_cdb.specs.Forms.{cdb_of}
use Rattle.ct_cdb.specs.Profiles.{profile_by}
use Rattle.ct_param.specs.declared.fault.ListFault.{ListFault}
use Rattle.ct_param.specs.declared.resv.ResvList.{ResvList}
use Rattle.ct_pages.specs.declared.pages.ModePages.{ModePages}
use Rattle.ct_book.specs.declared.work.Command.{Command}
use Rattle.ct_book.specs.Works.{profile_in}
use Rattle.ct_exec.specs.Controls.{ControlState, tells_aborts}
use Rattle.ct_ua.proofs.Nexuses.{none_contained}
use Rattle.ct_exec.specs.Reserving.{reserve_list, after_reserve_out}
use Rattle.ct_exec.specs.Changes.{changed_by, decoded_change, changed_control, cleared_by_op, decoded_cleared, cleared_by}

-- an action leaves the mode pages
kept_pages : (control : ControlState) (nexus : Nexus) (asked : ReserveOut) (list : Result ResvList ListFault)
    → (after_reserve_out control nexus asked list).pages ≡ control.pages
kept_pages control nexus asked (Ok list) = refl
kept_pages control nexus asked (Err fault) = refl

-- a command that clears a nexus is a PERSISTENT RESERVE OUT, and leaves the mode pages
record Clears (row pages : Type 0) : Type 0 where
  indexed : row
  kept : pages

clearing_op : (control : ControlState) (nexus : Nexus) (out : List ℕ) (n : ℕ) (cdb : Cdb) (other : Nexus)
    → contains (cleared_by_op control nexus out cdb.op) other ≡ true
    → Clears ((profile_by (Ok cdb) out n).index ≡ Res) ((changed_by control nexus out cdb.op).pages ≡ control.pages)
clearing_op control nexus out n cdb other is = go cdb.op refl is
  where
    go : (o : Op) → cdb.op ≡ o → contains (cleared_by_op control nexus out o) other ≡ true
        → Clears ((profile_by (Ok cdb) out n).index ≡ Res) ((changed_by control nexus out cdb.op).pages ≡ control.pages)
    go (op.PersistentReserveOut asked size) e is = rw e (record { indexed = refl; kept = kept_pages control nexus asked (reserve_list size out) })
    go _ e is = absurd (let none = none_contained other in cc)

clearing_decoded : (control : ControlState) (nexus : Nexus) (out : List ℕ) (n : ℕ) (decoded : Result Cdb CdbFault) (other : Nexus)
    → contains (decoded_cleared control nexus out decoded) other ≡ true
    → Clears ((profile_by decoded out n).index ≡ Res) ((decoded_change control nexus out decoded).pages ≡ control.pages)
clearing_decoded control nexus out n (Ok cdb) other is = clearing_op control nexus out n cdb other is
clearing_decoded control nexus out n (Err fault) other is = absurd (let none = none_contained other in cc)

pub clearing_index : (control : ControlState) (c : Command) (n : ℕ) (nexus : Nexus)
    → contains (cleared_by control c) nexus ≡ true → (profile_in n c).index ≡ Res
unfolding cleared_by profile_in
clearing_index control c n nexus is = (clearing_decoded control c.nexus c.out n (cdb_of c.cdb) nexus is).indexed

pub clearing_keeps_pages : (control : ControlState) (c : Command) (nexus : Nexus)
    → contains (cleared_by control c) nexus ≡ true → (changed_control control c).pages ≡ control.pages
unfolding cleared_by changed_control
clearing_keeps_pages control c nexus is = (clearing_decoded control c.nexus c.out 0 (cdb_of c.cdb) nexus is).kept

pub clearing_keeps_tas : (control : ControlState) (c : Command) (nexus : Nexus)
    → contains (cleared_by control c) nexus ≡ true → tells_aborts (changed_control control c) ≡ tells_aborts control
unfolding tells_aborts
clearing_keeps_tas control c nexus is =
    ap (λ (pages : ModePages). pages.tas) (clearing_keeps_pages control c nexus is)
