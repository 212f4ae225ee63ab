use Rattle.std.proofs.Common.{refl}
use Rattle.command_refusals.proofs.refusal.fault_row.Goals as goal

pub returns-in-NotUtf8 : goal.returns-in-NotUtf8
returns-in-NotUtf8 c = rw c.in-NotUtf8.is refl

pub returns-in-BadLine : goal.returns-in-BadLine
returns-in-BadLine c = rw c.in-BadLine.is refl

pub returns-in-UnknownStyle : goal.returns-in-UnknownStyle
returns-in-UnknownStyle c = rw c.in-UnknownStyle.is refl

pub returns-in-BadValue : goal.returns-in-BadValue
returns-in-BadValue c = rw c.in-BadValue.is refl

pub returns-in-OutOfRange : goal.returns-in-OutOfRange
returns-in-OutOfRange c = rw c.in-OutOfRange.is refl

pub returns-in-Repeated : goal.returns-in-Repeated
returns-in-Repeated c = rw c.in-Repeated.is refl

pub returns-in-NoMemory : goal.returns-in-NoMemory
returns-in-NoMemory c = rw c.in-NoMemory.is refl
