use Rattle.command_refusals.proofs.rows.RowStream.write.Goals as goal

pub returns-in-Named-clause-ok : goal.returns-in-Named-clause-ok
returns-in-Named-clause-ok g c = rw c.in-Named.is c.write_two.ensures.ok

pub returns-in-Named-clause-part : goal.returns-in-Named-clause-part
returns-in-Named-clause-part g c = rw c.in-Named.is c.write_two.ensures.part

pub returns-in-Named-clause-counts : goal.returns-in-Named-clause-counts
returns-in-Named-clause-counts g c = c.write_two.ensures.counts

pub returns-in-Quoted-clause-ok : goal.returns-in-Quoted-clause-ok
returns-in-Quoted-clause-ok g c = rw c.in-Quoted.is c.write_three.ensures.ok

pub returns-in-Quoted-clause-part : goal.returns-in-Quoted-clause-part
returns-in-Quoted-clause-part g c = rw c.in-Quoted.is c.write_three.ensures.part

pub returns-in-Quoted-clause-counts : goal.returns-in-Quoted-clause-counts
returns-in-Quoted-clause-counts g c = c.write_three.ensures.counts

pub returns-in-AtByte-clause-ok : goal.returns-in-AtByte-clause-ok
returns-in-AtByte-clause-ok g c = rw c.in-AtByte.is c.write_number.ensures.ok

pub returns-in-AtByte-clause-part : goal.returns-in-AtByte-clause-part
returns-in-AtByte-clause-part g c = rw c.in-AtByte.is c.write_number.ensures.part

pub returns-in-AtByte-clause-counts : goal.returns-in-AtByte-clause-counts
returns-in-AtByte-clause-counts g c = c.write_number.ensures.counts

pub returns-in-AtLine-clause-ok : goal.returns-in-AtLine-clause-ok
returns-in-AtLine-clause-ok g c = rw c.in-AtLine.is c.write_number-in-AtLine.ensures.ok

pub returns-in-AtLine-clause-part : goal.returns-in-AtLine-clause-part
returns-in-AtLine-clause-part g c = rw c.in-AtLine.is c.write_number-in-AtLine.ensures.part

pub returns-in-AtLine-clause-counts : goal.returns-in-AtLine-clause-counts
returns-in-AtLine-clause-counts g c = c.write_number-in-AtLine.ensures.counts

pub returns-in-AtPlace-clause-ok : goal.returns-in-AtPlace-clause-ok
returns-in-AtPlace-clause-ok g c = rw c.in-AtPlace.is c.write_place.ensures.ok

pub returns-in-AtPlace-clause-part : goal.returns-in-AtPlace-clause-part
returns-in-AtPlace-clause-part g c = rw c.in-AtPlace.is c.write_place.ensures.part

pub returns-in-AtPlace-clause-counts : goal.returns-in-AtPlace-clause-counts
returns-in-AtPlace-clause-counts g c = c.write_place.ensures.counts
