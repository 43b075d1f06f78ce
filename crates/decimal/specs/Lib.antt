-- What a token is read as; which bytes are a number, what nearest means, and so what a token means; the contracts of private steps.
pub mod Decimal
pub mod Form
pub mod Long
pub mod Means
pub mod Nearest
pub mod inner
