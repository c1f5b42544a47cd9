use Rattle.page_controls.proofs.count.read_count.Goals as goal

pub returns-in-Ok : goal.returns-in-Ok
returns-in-Ok c = c.count_of-count.ensures c.args.controls.now.quads c.args.controls.now.topic c.count_objects.ensures.members
