-- Auctions, coins, calls, runs, what is read off a run, and the demands.
pub mod Auction
pub mod Coins
pub mod Call
pub mod Desk
pub mod Attendance
pub mod Canonical
pub mod Run
pub mod Received
pub mod Demands
