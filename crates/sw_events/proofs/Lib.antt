pub mod Runs
pub mod TypeEvents
pub mod ExprEvents
pub mod StmtEvents
