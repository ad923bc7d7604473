-- Threads may share a board, since they may share its table and its plan.
use denote.Builtin.{unit}
use denote.Param.Send.{IsSync, sendable, struct_sync_at, plain_send}
use denote.Struct.Declared.{shape}
use Rattle.atomic_table.proofs.owned.Table.TheSendSync as table
use Rattle.std.proofs.alloc.Global.TheSendSync as global
use Rattle.std.below.std_heap.proofs.GlobalAllocator.TheSendSync as heap_frees
use Rattle.std.specs.contracts.alloc.Global as heap
use Rattle.std.specs.contracts.collections.LinkedList as list
use Rattle.std.specs.contracts.impls.GlobalAllocator.TheImpl as allocator
use Rattle.std.proofs.Crossing.{crosses}
use Rattle.entities.specs.contracts.phase.trace.Line as line
use Rattle.entities.specs.contracts.phase.plan.Plan as plan
use Rattle.entities.specs.contracts.phase.rule.Interleaved as interleaved
use Rattle.entities.specs.contracts.phase.rule.InterleavedTableRuleUnitLinkedListLinePlan.TheImpl as rule
use Rattle.atomic_table.specs.contracts.owned.Table as words
use Rattle.entities.specs.contracts.phase.board.Board.{the_row, the_type}

plan_sync : IsSync plan.the_row
plan_sync = search (crosses, sendable) depth 60 fits 20000

words_sync : IsSync (words.the_row unit (list.the_row line.the_row heap.the_row allocator.ghosts) plan.the_row interleaved.the_row heap.the_row rule.ghosts allocator.ghosts)
words_sync = table.the_sync unit (list.the_row line.the_row heap.the_row allocator.ghosts) plan.the_row interleaved.the_row heap.the_row rule.ghosts allocator.ghosts (plain_send _ _ _ _ _) global.the_send global.the_sync heap_frees.the_frees

pub board_sync : IsSync the_row
board_sync = record { shared = λ d. struct_sync_at (shape the_type) (the_type.to d) (words_sync.shared d.words, (plan_sync.shared d.plan, tt)) }
