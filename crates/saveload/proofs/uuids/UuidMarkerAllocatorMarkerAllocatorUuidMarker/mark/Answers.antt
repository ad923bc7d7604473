use mathlib.Core.Path.{fun_ext}
use Rattle.std.proofs.Common.{inl}
use Rattle.saveload.proofs.uuids.UuidMarkerAllocatorMarkerAllocatorUuidMarker.mark.Goals as goal

-- room for an identifier maps none
pub returns-then-is_err-2-clause-err_given : goal.returns-then-is_err-2-clause-err_given
returns-then-is_err-2-clause-err_given g c = fun_ext c.reserve.ensures.entries.2

pub returns-then-is_err-2-clause-err_mapped : goal.returns-then-is_err-2-clause-err_mapped
returns-then-is_err-2-clause-err_mapped g c = inl (fun_ext c.reserve.ensures.entries.2)
