use Rattle.index.proofs.index.Index.remove.Goals as goal

pub returns-in-Found-clause-map : goal.returns-in-Found-clause-map
returns-in-Found-clause-map g c = c.take_out.ensures.map c.args.key.now c.in-Found.number c.in-Found.ensures.place
