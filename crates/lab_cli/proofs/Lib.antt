pub mod UnderTerms
pub mod FirstNamed
pub mod Serving
pub mod Releasing
pub mod Settling
pub mod Accepting
