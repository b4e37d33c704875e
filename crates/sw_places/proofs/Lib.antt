pub mod ErasedExpr
pub mod ErasedStmt
pub mod NearParts
pub mod NearExpr
pub mod NearPattern
pub mod NearStmt
pub mod NearDecl
pub mod Apart
