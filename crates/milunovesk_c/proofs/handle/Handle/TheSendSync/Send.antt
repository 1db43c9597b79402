use mathlib.Core.Bool.{Bool, true, false}
use mir.Raw.{raw}
use base.Shift.{Keyless}
use denote.Memory.{lone}
use denote.RawPtr.{Ptr}
use denote.Struct.Struct.{exits_of}
use denote.Struct.Owning.{shape, fields, to}
use denote.Param.Send.{IsSend, AllSend, owning_send, struct_send, sendable}
use Rattle.std.proofs.Crossing as heap
use Rattle.std.specs.declared.option.Option.{Option}
use Rattle.std.specs.declared.option.Option.TheVariants.{None, Some}
use Rattle.std.specs.contracts.alloc.Global as Heap
use Rattle.std.specs.contracts.impls.GlobalAllocator.TheImpl.{ghosts}
use Rattle.std_alloc.proofs.SendSync.{quiet, lies}
use Rattle.std_heap.proofs.Global.TheSendSync as global
use Rattle.milunovesk_c.specs.contracts.kept.Kept as Kept
use Rattle.milunovesk_c.proofs.kept.Kept.TheSendSync.{the_send as kept}
use Rattle.milunovesk_c.specs.Handles.{holds}
use Rattle.milunovesk_c.specs.contracts.handle.Handle.{the_row, the_type}

owned : (a : Heap.the_row.Denot) (l : Bool) (p : Ptr) (x : Option Kept.the_row.Denot) → Keyless (holds (ghosts.dealloc_token a) Kept.the_row l p x)
owned a true p (Some x) = (lies Kept.the_row kept p x, heap.frees.frees a (raw (lone Kept.the_row.mir)) p)
owned a false p None = tt
owned a true p None = tt
owned a false p (Some x) = tt

pub send : IsSend the_row
send =
    let all : AllSend (fields the_type) = (search sendable, (search sendable, (global.the_field_send, tt))) in
    owning_send the_type all (λ d. owned d.alloc d.live d.at d.value)
    (λ k. quiet (to the_type) (exits_of k (fields the_type)) ((struct_send (shape the_type) all).leaving k))
