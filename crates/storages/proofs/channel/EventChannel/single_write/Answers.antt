use Rattle.storages.specs.Heard.{written_unread}
use Rattle.storages.proofs.channel.EventChannel.single_write.Goals as goal

pub returns-clause-told : goal.returns-clause-told
returns-clause-told g c = λ n. rw (c.write_reserved.ensures.readers, c.in_ok-reserve.ensures.keeps.readers) (written_unread c.args.event n c.args.self.now.readers)
